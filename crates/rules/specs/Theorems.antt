-- What is proved of the rules themselves.
use Rattle.std.specs.Prelude.{◌≡◌, ℕ, ◌+◌, ◌^◌, ◌<◌, ◌≤◌, Bool, true, false, not, ◌&&◌, List, [], ◌∷◌, map, length, count_by, slice_index_or}
use Rattle.std.specs.List.{range_with_len}
use Rattle.orders.specs.declared.answer.Answer.{Answer}
use Rattle.orders.specs.declared.answer.Answer.TheVariants.{Done, Refused, Told, Stopped}
use Rattle.orders.specs.Meaning.{Meaning, folder, volume, quota, reserve, resize, begin, hold_writes, hold_frees, assign, abort, write, free, commit, turn, tell}
use Rattle.rules.specs.declared.state.Holder.{Holder}
use Rattle.rules.specs.declared.state.Holder.TheVariants.{Nobody}
use Rattle.rules.specs.Figures.{Figures, Sane}
use Rattle.rules.specs.Answers.{answer}
use Rattle.rules.specs.Holders.{is_deferred}
use Rattle.rules.specs.Journal.{Entry, replay, out_after}
use Rattle.rules.specs.Law.{Lawful}

-- how many units are out
abbrev pub outs : List Bool → ℕ
outs us = count_by (λ out. out) us

-- units taken: n that were in go out, and none comes in
pub record Taken (n : ℕ) (us vs : List Bool) : Type 0 where
  pub as_many : length vs ≡ length us
  pub stay_out : (u : ℕ) → slice_index_or us u false ≡ true → slice_index_or vs u false ≡ true
  pub counted : outs vs ≡ outs us + n

-- the units with all deferred ones given back
unfoldable pub given_back : List Bool → List Holder → List Bool
given_back us hs = map (λ u. slice_index_or us u false && not (is_deferred (slice_index_or hs u Nobody))) (range_with_len 0 (length us))

-- what an accepted order may do to the units: a write takes its cost, a turn gives back the deferred ones, any other nothing
abbrev pub Moves : Figures → Meaning → List Holder → List Bool → List Bool → Type 0
Moves F (folder p n) hs us vs = vs ≡ us
Moves F (volume p r n) hs us vs = vs ≡ us
Moves F (quota d u) hs us vs = vs ≡ us
Moves F (reserve d u) hs us vs = vs ≡ us
Moves F (resize v n) hs us vs = vs ≡ us
Moves F (begin t v) hs us vs = vs ≡ us
Moves F (hold_writes t n) hs us vs = vs ≡ us
Moves F (hold_frees t n) hs us vs = vs ≡ us
Moves F (assign t) hs us vs = vs ≡ us
Moves F (abort t) hs us vs = vs ≡ us
Moves F (write t r s) hs us vs = Taken (F.cost s) us vs
Moves F (free t r) hs us vs = vs ≡ us
Moves F (commit t) hs us vs = vs ≡ us
Moves F turn hs us vs = vs ≡ given_back us hs
Moves F (tell d) hs us vs = vs ≡ us

-- a refused order moves nothing
abbrev pub Moved : Figures → Meaning → Answer → List Holder → List Bool → List Bool → Type 0
Moved F m (Done v) hs us vs = Moves F m hs us vs
Moved F m (Refused f) hs us vs = vs ≡ us
Moved F m (Told f) hs us vs = vs ≡ us
Moved F m (Stopped n p) hs us vs = vs ≡ us

-- every number of an order fits its field, and a name has eight bytes
abbrev pub Fits : Meaning → Type 0
Fits (folder p n) = (p < 2 ^ 8) × (length n ≡ 8)
Fits (volume p r n) = (p < 2 ^ 8) × (r < 2 ^ 8) × (length n ≡ 8)
Fits (quota d u) = (d < 2 ^ 8) × (u < 2 ^ 16)
Fits (reserve d u) = (d < 2 ^ 8) × (u < 2 ^ 16)
Fits (resize v n) = (v < 2 ^ 8) × (n < 2 ^ 8)
Fits (begin t v) = (t < 2 ^ 8) × (v < 2 ^ 8)
Fits (hold_writes t n) = (t < 2 ^ 8) × (n < 2 ^ 8)
Fits (hold_frees t n) = (t < 2 ^ 8) × (n < 2 ^ 8)
Fits (assign t) = t < 2 ^ 8
Fits (abort t) = t < 2 ^ 8
Fits (write t r s) = (t < 2 ^ 8) × (r < 2 ^ 8) × (s < 2 ^ 8)
Fits (free t r) = (t < 2 ^ 8) × (r < 2 ^ 8)
Fits (commit t) = t < 2 ^ 8
Fits turn = Unit {0}
Fits (tell d) = d < 2 ^ 8

-- an entry that is answered by the rules, over units that change only as an allocator may
pub record ObeyedEntry (F : Figures) (older : List Entry) (e : Entry) : Type 0 where
  pub fits : Fits e.order
  pub answered : e.answer ≡ answer F (replay F older).book e.order
  pub chained : e.before ≡ out_after F older
  pub moved : Moved F e.order e.answer (replay F older).holders e.before e.after

abbrev pub Obeyed : Figures → List Entry → Type 0
Obeyed F [] = Unit {0}
Obeyed F (e ∷ older) = ObeyedEntry F older e × Obeyed F older

-- a journal that is answered by the rules is lawful
abbrev pub LawHolds : Type 0
LawHolds = (F : Figures) (j : List Entry) → Sane F → Obeyed F j → Lawful F j

-- and a write that is accepted then finds its units: as many are in as it costs
abbrev pub WritesFindUnits : Type 0
WritesFindUnits =
    (F : Figures) (j : List Entry) → Sane F → Obeyed F j →
    (t r s k : ℕ) → answer F (replay F j).book (write t r s) ≡ Done k → outs (out_after F j) + k ≤ F.size
