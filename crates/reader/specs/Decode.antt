-- What a script says at a place.
use Rattle.std.specs.Prelude.{◌≡◌, ℕ, ◌+◌, ◌<◌, ◌≤◌, cond, List, length, Some, None, Ok, Err, Option, Result, nat_le, nat_lt, slice_index}
use Rattle.orders.specs.Meaning.{Meaning, meaning, name_place}
use Rattle.orders.specs.Layout.{Body, body, unknown, body_at}
use Rattle.orders.specs.declared.order.Order.{Order}
use Rattle.reader.specs.declared.fault.ReadFault.{ReadFault}
use Rattle.reader.specs.declared.fault.ReadFault.TheVariants.{UnknownKind, CutShort}
use Rattle.reader.specs.declared.reader.Reader.{Reader}

-- A fault by its number, and the place of the first byte of the order that cannot be read.
abbrev pub number_and_place : ReadFault → ℕ × ℕ
number_and_place (UnknownKind p) = (2, p)
number_and_place (CutShort p) = (3, p)

-- What stands at a place: an order, with the place of its name, if it has one, and the place behind the order; something that cannot be read; or the script's end.
pub data Read : Type 0 where
  order : Meaning → (name : Option ℕ) → (next : ℕ) → Read
  fault : ReadFault → Read
  finished : Read

-- the order at p, if its kind is in the table and the script has all of its body
abbrev pub order_at : List ℕ → ℕ → Body → Read
order_at s p (body n m name) = cond (nat_le (p + 1 + n) (length s)) (order m name (p + 1 + n)) (fault (CutShort p))
order_at s p unknown = fault (UnknownKind p)

-- what the script s says at p: the kind byte there, and the body behind it
abbrev pub decode : List ℕ → ℕ → Read
decode s p = cond (nat_lt p (length s)) (order_at s p (body_at s (p + 1) (slice_index s p))) finished

-- What a reading answers, with the place at p before and at q afterwards: a fault and the end leave it.
abbrev pub ReadOne : List ℕ → ℕ → ℕ → Result (Option Order) ReadFault → Type 0
ReadOne s p q (Ok (Some o)) = decode s p ≡ order (meaning o) (name_place o) q
ReadOne s p q (Ok None) = (decode s p ≡ finished) × (q ≡ p)
ReadOne s p q (Err f) = (decode s p ≡ fault f) × (q ≡ p)

-- the bytes that a reader reads, and where it stands
abbrev pub script_of : Reader → List ℕ
script_of r = r.cursor.script.now

abbrev pub place_of : Reader → ℕ
place_of r = r.cursor.place

-- an order ends behind its first byte, and within the script
abbrev pub Onward : List ℕ → ℕ → ℕ → Result (Option Order) ReadFault → Type 0
Onward s p q (Ok (Some o)) = (p < q) × (q ≤ length s)
Onward s p q (Ok None) = Unit {0}
Onward s p q (Err f) = Unit {0}
