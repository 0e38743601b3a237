-- Worked figures and worked journals: the definitions computed, and held against numbers and bytes written by hand.
use Rattle.std.specs.Prelude.{◌≡◌, ℕ, ◌+◌, Bool, true, false, ◌&&◌, List, [], ◌∷◌, ◌++◌, replicate, ℤ, pos, negsuc, ◌==◌}
use Rattle.std.specs.List.{range_with_len}
use Rattle.orders.specs.declared.answer.Answer.{Answer}
use Rattle.orders.specs.Meaning.{Meaning, folder, volume, quota, reserve, resize, begin, hold_writes, hold_frees, assign, abort, write, free, commit, turn, tell}
use Rattle.orders.specs.Layout.{answer_bytes}
use Rattle.costs.specs.Costs.{copies_cost, parity_cost}
use Rattle.charges.specs.Amounts.{weight_of, limit_of, excess, passed}
use Rattle.rules.specs.Figures.{Figures}
use Rattle.rules.specs.Book.{Book, fresh}
use Rattle.rules.specs.Answers.{answer}
use Rattle.rules.specs.Journal.{book_after}

abbrev pub equal : ℤ → ℤ → Bool
equal (pos m) (pos n) = m == n
equal (pos m) (negsuc n) = false
equal (negsuc m) (pos n) = false
equal (negsuc m) (negsuc n) = m == n

-- a figure computed, and what it is
pub record Figured : Type 0 where
  pub computed : ℤ
  pub is : ℤ

abbrev pub figure : ℤ → ℤ → Figured
figure computed is = record { computed = computed; is = is }

abbrev pub agree : List Figured → Bool
agree [] = true
agree (x ∷ xs) = equal x.computed x.is && agree xs

abbrev pub worked_figures : List Figured
worked_figures =
    -- parity 1 of width 3, sizes 0 to 4; parity 2 of width 6 and parity 3 of width 4, size 16
    figure (pos (parity_cost 1 3 0)) (pos 0) ∷ figure (pos (parity_cost 1 3 1)) (pos 2) ∷ figure (pos (parity_cost 1 3 2)) (pos 4)
    ∷ figure (pos (parity_cost 1 3 3)) (pos 6) ∷ figure (pos (parity_cost 1 3 4)) (pos 6) ∷ figure (pos (parity_cost 2 6 16)) (pos 24)
    ∷ figure (pos (parity_cost 3 4 16)) (pos 64)
    -- with reservation 40: charge 10 weighs 40, charge 50 weighs 50; 32 more at charge 32 pass 24; 20 fewer at charge 50 pass 10 fewer
    ∷ figure (pos (weight_of 10 40)) (pos 40) ∷ figure (pos (weight_of 50 40)) (pos 50) ∷ figure (passed 32 40 (pos 32)) (pos 24)
    ∷ figure (passed 50 40 (negsuc 19)) (negsuc 9)
    -- under quota 80: 32 more fits at charge 48, and is short by 1 at 49
    ∷ figure (pos (excess (limit_of 96 1 80) (48 + 32))) (pos 0) ∷ figure (pos (excess (limit_of 96 1 80) (49 + 32))) (pos 1) ∷ []

-- a pool of 100 units with slop 4 under two copies
abbrev pub hundred : Figures
hundred = record { size = 100; slop = 4; cost = copies_cost 2; worst = 32 }

-- the answers to orders, one after the other
abbrev pub answers : Figures → Book → List Meaning → List Answer
answers F b [] = []
answers F b (m ∷ ms) = answer F b m ∷ answers F (book_after F b m (answer F b m)) ms

abbrev pub bytes : List Answer → List ℕ
bytes [] = []
bytes (a ∷ rest) = answer_bytes a ++ bytes rest

abbrev pub same : List ℕ → List ℕ → Bool
same [] [] = true
same [] (y ∷ ys) = false
same (x ∷ xs) [] = false
same (x ∷ xs) (y ∷ ys) = x == y && same xs ys

-- orders to a fresh ledger of a hundred units, and the bytes of their answers
pub record Worked : Type 0 where
  pub orders : List Meaning
  pub answered : List ℕ

abbrev pub worked : List Meaning → List ℕ → Worked
worked orders answered = record { orders = orders; answered = answered }

abbrev pub right : List Worked → Bool
right [] = true
right (w ∷ ws) = same (bytes (answers hundred fresh w.orders)) w.answered && right ws

abbrev pub done : ℕ → ℕ → List ℕ
done high low = 0x80 ∷ high ∷ low ∷ []

-- done with each number
abbrev pub done_each : List ℕ → List ℕ
done_each [] = []
done_each (n ∷ ns) = done 0 n ++ done_each ns

abbrev pub refusal : ℕ → ℕ → ℕ → ℕ → ℕ → List ℕ
refusal number layer item high low = 0x81 ∷ number ∷ layer ∷ item ∷ high ∷ low ∷ []

-- NAME----
abbrev pub name : List ℕ
name = 78 ∷ 65 ∷ 77 ∷ 69 ∷ 45 ∷ 45 ∷ 45 ∷ 45 ∷ []

abbrev pub worked_journals : List Worked
worked_journals =
    -- a folder with a quota, a neighbour's reservation, and an assign that is short by 24
    worked
    (folder 0 name ∷ volume 1 4 name ∷ volume 1 4 name ∷ quota 1 80 ∷ reserve 3 40 ∷ begin 0 2 ∷ hold_writes 0 2 ∷ assign 0 ∷ abort 0 ∷ [])
    (done 0 1 ++ done 0 2 ++ done 0 3 ++ done 0 0 ++ done 0 0x28 ++ done 0 0x20 ++ done 0 0x40 ++ refusal 17 3 1 0 0x18 ++ done 0 0x40)
    -- 5: there are 32 transactions
    ∷ worked (begin 32 1 ∷ commit 255 ∷ []) (refusal 5 2 32 0 0 ++ refusal 5 2 255 0 0)
    -- 6: each state refuses what it does not allow
    ∷ worked
    (assign 31 ∷ volume 0 1 name ∷ begin 0 1 ∷ begin 0 1 ∷ hold_frees 0 1 ∷ commit 0 ∷ assign 0 ∷ hold_writes 0 1 ∷ abort 0 ∷ [])
    (refusal 6 2 31 0 0 ++ done 0 1 ++ done 0 0x20 ++ refusal 6 2 0 0 1 ++ done 0 0 ++ refusal 6 2 0 0 2 ++ done 0 0 ++ refusal 6 2 0 0 3
    ++ refusal 6 2 0 0 3)
    -- 7: none, or more than 64 together, of each sort apart
    ∷ worked
    (volume 0 1 name ∷ begin 0 1 ∷ hold_writes 0 0 ∷ hold_writes 0 64 ∷ hold_writes 0 1 ∷ hold_frees 0 65 ∷ hold_frees 0 64 ∷ [])
    (done 0 1 ++ done 0 0x20 ++ refusal 7 2 0 0 0 ++ done 8 0 ++ refusal 7 2 0 0 64 ++ refusal 7 2 0 0 0 ++ done 8 0)
    -- 8: no write left, no free left
    ∷ worked
    (volume 0 4 name ∷ begin 0 1 ∷ hold_frees 0 1 ∷ assign 0 ∷ write 0 0 1 ∷ free 0 0 ∷ free 0 0 ∷ [])
    (done 0 1 ++ done 0 0x20 ++ done 0 0 ++ done 0 0 ++ refusal 8 2 0 0 0 ++ done 0 0 ++ refusal 8 2 0 0 0)
    -- 9 and 10: a record past the end, a size above 16
    ∷ worked
    (volume 0 4 name ∷ begin 0 1 ∷ hold_writes 0 1 ∷ assign 0 ∷ write 0 4 17 ∷ write 0 3 17 ∷ write 0 3 16 ∷ [])
    (done 0 1 ++ done 0 0x20 ++ done 0 0x20 ++ done 0 0x20 ++ refusal 9 2 4 0 4 ++ refusal 10 2 17 0 16 ++ done 0 0x20)
    -- 11: a turn waits for the assigned transactions
    ∷ worked
    (volume 0 1 name ∷ begin 3 1 ∷ hold_frees 3 1 ∷ assign 3 ∷ begin 9 1 ∷ hold_frees 9 1 ∷ assign 9 ∷ turn ∷ commit 3 ∷ turn ∷ commit 9 ∷ turn ∷ [])
    (done 0 1 ++ done 0 0x20 ++ done 0 0 ++ done 0 0 ++ done 0 0x20 ++ done 0 0 ++ done 0 0 ++ refusal 11 2 3 0 2 ++ done 0 0
    ++ refusal 11 2 9 0 1 ++ done 0 0 ++ done 0 0)
    -- 12: a dataset that is missing, the root, a volume as a parent, a folder as a volume
    ∷ worked
    (tell 1 ∷ quota 0 5 ∷ reserve 0 5 ∷ reserve 1 5 ∷ folder 1 name ∷ volume 0 1 name ∷ folder 1 name ∷ volume 1 0 name ∷ resize 0 1 ∷ begin 0 0 ∷ [])
    (refusal 12 3 1 0 0 ++ refusal 12 3 0 0 0 ++ refusal 12 3 0 0 0 ++ refusal 12 3 1 0 0 ++ refusal 12 3 1 0 0 ++ done 0 1
    ++ refusal 12 3 1 0 0 ++ refusal 12 3 1 0 0 ++ refusal 12 3 0 0 0 ++ refusal 12 3 0 0 0)
    -- 14: from 1 to 64 records
    ∷ worked
    (volume 0 0 name ∷ volume 0 65 name ∷ volume 0 64 name ∷ resize 1 0 ∷ resize 1 65 ∷ resize 1 1 ∷ [])
    (refusal 14 3 0 0 0 ++ refusal 14 3 65 0 0 ++ done 0 1 ++ refusal 14 3 0 0 0 ++ refusal 14 3 65 0 0 ++ done 0 0)
    -- 15: a quota below the reservation, and below the charge
    ∷ worked
    (volume 0 1 name ∷ reserve 1 40 ∷ quota 1 39 ∷ quota 1 40 ∷ quota 1 0 ∷ reserve 1 0 ∷ begin 0 1 ∷ hold_writes 0 1 ∷ assign 0 ∷ quota 1 31 ∷ quota 1 32 ∷ [])
    (done 0 1 ++ done 0 40 ++ refusal 15 3 1 0 1 ++ done 0 0 ++ done 0 0 ++ done 0 0 ++ done 0 0x20 ++ done 0 0x20 ++ done 0 0x20
    ++ refusal 15 3 1 0 1 ++ done 0 0x20)
    -- 16: a reservation above the quota
    ∷ worked
    (volume 0 1 name ∷ quota 1 10 ∷ reserve 1 11 ∷ reserve 1 10 ∷ [])
    (done 0 1 ++ done 0 0 ++ refusal 16 3 1 0 1 ++ done 0 10)
    -- 17 by a reservation: the root's limit is 96
    ∷ worked
    (volume 0 1 name ∷ reserve 1 97 ∷ reserve 1 96 ∷ reserve 1 0xffff ∷ [])
    (done 0 1 ++ refusal 17 3 0 0 1 ++ done 0 96 ++ refusal 17 3 0 0xff 0x9f)
    -- 17 names the nearest: a folder with a quota above one without
    ∷ worked
    (folder 0 name ∷ folder 1 name ∷ volume 2 4 name ∷ quota 1 50 ∷ begin 0 3 ∷ hold_writes 0 4 ∷ assign 0 ∷ quota 1 0 ∷ assign 0 ∷ [])
    (done 0 1 ++ done 0 2 ++ done 0 3 ++ done 0 0 ++ done 0 0x20 ++ done 0 0x80 ++ refusal 17 3 1 0 78 ++ done 0 0 ++ refusal 17 3 0 0 32)
    -- an assign within a reservation is granted on a full pool
    ∷ worked
    (volume 0 1 name ∷ volume 0 1 name ∷ reserve 1 64 ∷ begin 0 2 ∷ hold_writes 0 1 ∷ assign 0 ∷ begin 1 1 ∷ hold_writes 1 2 ∷ assign 1 ∷ begin 2 2 ∷ hold_writes 2 1 ∷ assign 2 ∷ [])
    (done 0 1 ++ done 0 2 ++ done 0 64 ++ done 0 0x20 ++ done 0 0x20 ++ done 0 0x20 ++ done 0 0x20 ++ done 0 0x40 ++ done 0 0x40
    ++ done 0 0x20 ++ done 0 0x20 ++ refusal 17 3 0 0 0x20)
    -- a record written twice: the first units are deferred until the turn
    ∷ worked
    (volume 0 4 name ∷ begin 0 1 ∷ hold_writes 0 2 ∷ assign 0 ∷ write 0 0 16 ∷ write 0 0 3 ∷ tell 1 ∷ commit 0 ∷ turn ∷ tell 1 ∷ [])
    (done 0 1 ++ done 0 0x20 ++ done 0 0x40 ++ done 0 0x40 ++ done 0 0x20 ++ done 0 6 ++ (0x82 ∷ name ++ (0 ∷ 38 ∷ 0 ∷ 6 ∷ 0 ∷ 32 ∷ 0 ∷ 0 ∷ []))
    ++ done 0 0 ++ done 0 0x20 ++ (0x82 ∷ name ++ (0 ∷ 6 ∷ 0 ∷ 6 ∷ 0 ∷ 0 ∷ 0 ∷ 0 ∷ [])))
    -- a write of size 0 empties; a free defers
    ∷ worked
    (volume 0 4 name ∷ begin 0 1 ∷ hold_writes 0 3 ∷ hold_frees 0 1 ∷ assign 0 ∷ write 0 3 1 ∷ write 0 2 4 ∷ write 0 2 0 ∷ free 0 3 ∷ commit 0 ∷ tell 1 ∷ turn ∷ [])
    (done 0 1 ++ done 0 0x20 ++ done 0 0x60 ++ done 0 0x60 ++ done 0 0x60 ++ done 0 2 ++ done 0 8 ++ done 0 0 ++ done 0 2 ++ done 0 0
    ++ (0x82 ∷ name ++ (0 ∷ 10 ∷ 0 ∷ 0 ∷ 0 ∷ 10 ∷ 0 ∷ 0 ∷ [])) ++ done 0 10)
    -- a resize empties the records past the new end; new ones are empty
    ∷ worked
    (volume 0 4 name ∷ begin 0 1 ∷ hold_writes 0 2 ∷ assign 0 ∷ write 0 3 2 ∷ write 0 1 5 ∷ resize 1 2 ∷ resize 1 4 ∷ commit 0 ∷ tell 1 ∷ [])
    (done 0 1 ++ done 0 0x20 ++ done 0 0x40 ++ done 0 0x40 ++ done 0 4 ++ done 0 10 ++ done 0 4 ++ done 0 0 ++ done 0 0
    ++ (0x82 ∷ name ++ (0 ∷ 14 ∷ 0 ∷ 10 ∷ 0 ∷ 4 ∷ 0 ∷ 0 ∷ [])))
    -- a commit gives back what was not spent, and tell shows it while it is granted
    ∷ worked
    (volume 0 4 name ∷ begin 0 1 ∷ hold_writes 0 2 ∷ assign 0 ∷ write 0 0 1 ∷ tell 1 ∷ commit 0 ∷ begin 0 1 ∷ abort 0 ∷ [])
    (done 0 1 ++ done 0 0x20 ++ done 0 0x40 ++ done 0 0x40 ++ done 0 2 ++ (0x82 ∷ name ++ (0 ∷ 34 ∷ 0 ∷ 2 ∷ 0 ∷ 0 ∷ 0 ∷ 32 ∷ [])) ++ done 0 0x20
    ++ done 0 0x20 ++ done 0 0)
    -- the root is a folder named POOL----
    ∷ worked (tell 0 ∷ []) (0x82 ∷ 80 ∷ 79 ∷ 79 ∷ 76 ∷ 45 ∷ 45 ∷ 45 ∷ 45 ∷ 0 ∷ 0 ∷ 0 ∷ 0 ∷ 0 ∷ 0 ∷ 0 ∷ 0 ∷ [])
    -- a reservation counts at the parent, not its use besides; a lower one passes on what is left
    ∷ worked
    (folder 0 name ∷ volume 1 4 name ∷ reserve 2 40 ∷ begin 0 2 ∷ hold_writes 0 1 ∷ assign 0 ∷ quota 1 40 ∷ reserve 2 10 ∷ quota 1 31 ∷ quota 1 32 ∷ [])
    (done 0 1 ++ done 0 2 ++ done 0 40 ++ done 0 0x20 ++ done 0 0x20 ++ done 0 0x20 ++ done 0 40 ++ done 0 32 ++ refusal 15 3 1 0 1 ++ done 0 32)
    -- 13: 63 folders in the root, and no more; it comes before 14
    ∷ worked (replicate 63 (folder 0 name) ++ folder 0 name ∷ volume 0 0 name ∷ volume 64 0 name ∷ [])
    (done_each (range_with_len 1 63) ++ refusal 13 3 0 0 64 ++ refusal 13 3 0 0 64 ++ refusal 12 3 64 0 0)
    ∷ []

abbrev pub WorkedFigures : Type 0
WorkedFigures = agree worked_figures ≡ true

abbrev pub WorkedJournals : Type 0
WorkedJournals = right worked_journals ≡ true
