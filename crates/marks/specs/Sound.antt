-- What the marks of a pool mean, when they are sound, and what each call does to them.
use Rattle.std.specs.Prelude.{◌≡◌, ℕ, ◌+◌, Bool, true, false, cond, not, ◌&&◌, List, map, length, Some, None, Ok, Err, count_by, Option, Result, nat_le, nat_lt, slice_index_or, slice_set}
use Rattle.std.specs.List.{range_with_len}
use Rattle.pool.specs.Units.{outs}
use Rattle.rules.specs.Holders.{is_deferred, handed}
use Rattle.rules.specs.declared.state.Holder.{Holder}
use Rattle.rules.specs.declared.state.Holder.TheVariants.{Nobody, Record}
use Rattle.marks.specs.declared.fault.MarksFault.{MarksFault}
use Rattle.marks.specs.declared.fault.MarksFault.TheVariants.{NoSuchRecord, AllOut}
use Rattle.marks.specs.declared.marks.Marks.{Marks}
use Rattle.marks.specs.Held.{Held}
use Rattle.marks.specs.Tabled.{Tabled, rows_of}

module _ {A : Type 0} {g : _} where
  -- the allocator
  abbrev pub pool_of : Marks A g → A
  pool_of m = m.pool

  -- the holder of each unit
  abbrev pub holders_of : Marks A g → List Holder
  holders_of m = rows_of m.table

  -- how many units there are
  abbrev pub size_of : Marks A g → ℕ
  size_of m = m.table.size

-- Over an allocator whose units are U: a unit is out exactly where it has a holder.
pub record Sound {A : Type 0} {g : _} (U : A → List Bool) (m : Marks A g) : Type 0 where
  pub sized : length (U (pool_of m)) ≡ size_of m
  pub long : length (holders_of m) ≡ size_of m
  pub held : Held (U (pool_of m)) (holders_of m)
  pub counted : m.out ≡ outs (U (pool_of m))
  pub tabled : Tabled m.table

-- n units went out, none came in, and those that went out are h's
pub record TookFor (h : Holder) (n : ℕ) (us vs : List Bool) (hs ks : List Holder) : Type 0 where
  pub long : length vs ≡ length us
  pub stays : (u : ℕ) → slice_index_or us u false ≡ true → slice_index_or vs u false ≡ true
  pub more : outs vs ≡ outs us + n
  pub marks : ks ≡ handed h us vs hs

-- h has n units more, and any other has as many as it had
abbrev pub Grew : Holder → ℕ → List Holder → List Holder → Type 0
Grew h n hs ks = (p : Holder → Bool) → p Nobody ≡ false → count_by p ks ≡ count_by p hs + cond (p h) n 0

-- the units once those that were deferred are in
abbrev pub returned : List Bool → List Holder → List Bool
returned us hs = map (λ u. slice_index_or us u false && not (is_deferred (slice_index_or hs u Nobody))) (range_with_len 0 (length us))

-- what `take` answers: there are 64 records of 64 volumes, and n units have to be in
abbrev pub take_answer : ℕ → ℕ → ℕ → List Bool → Result (Unit {0}) MarksFault
take_answer v r n us = cond (nat_lt v 64 && nat_lt r 64) (cond (nat_le (outs us + n) (length us)) (Ok tt) (Err AllOut)) (Err (NoSuchRecord v r))

module _ {A : Type 0} {g : _} (U : A → List Bool) (m m' : Marks A g) where
  -- one deferred unit has come in, and is nobody's; or none was deferred, and nothing changes
  abbrev pub GaveOne : Option ℕ → Type 0
  GaveOne (Some u) = (is_deferred (slice_index_or (holders_of m) u Nobody) ≡ true) × (holders_of m' ≡ slice_set (holders_of m) u Nobody) × (U (pool_of m') ≡ slice_set (U (pool_of m)) u false)
  GaveOne None = ((u : ℕ) → is_deferred (slice_index_or (holders_of m) u Nobody) ≡ false) × (holders_of m' ≡ holders_of m) × (pool_of m' ≡ pool_of m)

module _ {A : Type 0} {g : _} (U : A → List Bool) (v r n : ℕ) (m m' : Marks A g) where
  -- what `take` does: the units are the record's, or nothing changes
  abbrev pub TakeEffect : Result (Unit {0}) MarksFault → Type 0
  TakeEffect (Ok _) = TookFor (Record v r) n (U (pool_of m)) (U (pool_of m')) (holders_of m) (holders_of m') × Grew (Record v r) n (holders_of m) (holders_of m')
  TakeEffect (Err _) = m' ≡ m
