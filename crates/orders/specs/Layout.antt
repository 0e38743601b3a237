-- The byte layout of orders and answers. A two-byte number has its high byte first.
use Rattle.std.specs.Prelude.{◌≡◌, ℕ, ◌+◌, ◌*◌, ◌/◌, ◌%◌, ◌<◌, ◌≤◌, cond, List, [], ◌∷◌, ◌++◌, length, take, drop, Some, None, Ok, Err, Option, Result, ◌==◌, slice_index, slice_set}
use Rattle.orders.specs.Meaning.{Meaning, folder, volume, quota, reserve, resize, begin, hold_writes, hold_frees, assign, abort, write, free, commit, turn, tell}
use Rattle.orders.specs.declared.answer.Answer.{Answer}
use Rattle.orders.specs.declared.answer.Answer.TheVariants.{Done, Refused, Told, Stopped}
use Rattle.orders.specs.declared.answer.Layer.{Layer}
use Rattle.orders.specs.declared.answer.Layer.TheVariants.{Script, Transactions, Tree, Allocator}
use Rattle.orders.specs.declared.encode.NoRoom.{NoRoom}

-- the two-byte number at p
abbrev pub pair_at : List ℕ → ℕ → ℕ
pair_at s p = slice_index s p * 256 + slice_index s (p + 1)

-- the eight bytes at p
abbrev pub name_at : List ℕ → ℕ → List ℕ
name_at s p = take 8 (drop p s)

-- What follows the kind byte: so many bytes, the order that they mean, and where its name begins, if it has one; or the kind is not in the table.
pub data Body : Type 0 where
  body : (bytes : ℕ) → Meaning → (name : Option ℕ) → Body
  unknown : Body

-- The order table: the body of an order of kind k, whose first byte stands at p.
abbrev pub body_at : List ℕ → ℕ → ℕ → Body
body_at s p k =
    (cond (k == 0x01) (body 9 (folder (slice_index s p) (name_at s (p + 1))) (Some (p + 1)))
    (cond (k == 0x02) (body 10 (volume (slice_index s p) (slice_index s (p + 1)) (name_at s (p + 2))) (Some (p + 2)))
    (cond (k == 0x03) (body 3 (quota (slice_index s p) (pair_at s (p + 1))) None)
    (cond (k == 0x04) (body 3 (reserve (slice_index s p) (pair_at s (p + 1))) None)
    (cond (k == 0x05) (body 2 (resize (slice_index s p) (slice_index s (p + 1))) None)
    (cond (k == 0x10) (body 2 (begin (slice_index s p) (slice_index s (p + 1))) None)
    (cond (k == 0x11) (body 2 (hold_writes (slice_index s p) (slice_index s (p + 1))) None)
    (cond (k == 0x12) (body 2 (hold_frees (slice_index s p) (slice_index s (p + 1))) None)
    (cond (k == 0x13) (body 1 (assign (slice_index s p)) None)
    (cond (k == 0x14) (body 1 (abort (slice_index s p)) None)
    (cond (k == 0x15) (body 3 (write (slice_index s p) (slice_index s (p + 1)) (slice_index s (p + 2))) None)
    (cond (k == 0x16) (body 2 (free (slice_index s p) (slice_index s (p + 1))) None)
    (cond (k == 0x17) (body 1 (commit (slice_index s p)) None)
    (cond (k == 0x20) (body 0 turn None)
    (cond (k == 0x21) (body 1 (tell (slice_index s p)) None)
    unknown)))))))))))))))

-- a number as two bytes
abbrev pub two : ℕ → List ℕ
two n = n / 256 ∷ n % 256 ∷ []

abbrev pub layer_number : Layer → ℕ
layer_number Script = 1
layer_number Transactions = 2
layer_number Tree = 3
layer_number Allocator = 4

-- the bytes of an answer
abbrev pub answer_bytes : Answer → List ℕ
answer_bytes (Done v) = 0x80 ∷ two v
answer_bytes (Refused f) = 0x81 ∷ f.number ∷ layer_number f.layer ∷ f.item ∷ two f.amount
answer_bytes (Told f) = 0x82 ∷ f.name ++ (two f.charge ++ (two f.record_units ++ (two f.deferred_units ++ two f.unspent_grants)))
answer_bytes (Stopped n p) = 0x83 ∷ n ∷ two p

-- bytes written over what was there, from a place on; the others keep their contents
abbrev pub laid : List ℕ → ℕ → List ℕ → List ℕ
laid out at [] = out
laid out at (b ∷ bs) = laid (slice_set out at b) (at + 1) bs

-- Writing bytes into out at a place: how many were written, or that there is too little room and nothing was written.
abbrev pub Written : List ℕ → List ℕ → ℕ → List ℕ → Result ℕ NoRoom → Type 0
Written out after at bytes (Ok n) = (at + length bytes ≤ length out) × (n ≡ length bytes) × (after ≡ laid out at bytes)
Written out after at bytes (Err e) = (length out < at + length bytes) × (e.needed ≡ length bytes) × (after ≡ out)
