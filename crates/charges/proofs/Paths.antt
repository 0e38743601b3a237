-- The path from a dataset to the root: it goes down in number, no two of it have one parent, and its list says the same as its steps.
use Rattle.std.proofs.Common.{◌≡◌, ℕ, zero, suc, ◌<◌, ◌≤◌, ◌≢◌, ◌⊎◌, List, [], ◌∷◌, length, sym, refl, ap, inl, inr, le_refl, arith}
use Rattle.std.specs.List.{ContainsAt as Has, AllByRecursion}
use Rattle.std.proofs.lemmas.Bool.{cases_eq, cases_lt}
use Rattle.charges.specs.declared.Row.{Row}
use Rattle.charges.specs.Tree.{row, Rooted, climb, path, OnPath}
use Rattle.charges.specs.Laws.{PathEquation}

-- e is d, or stands above it
pub data Reaches (rows : List Row) : ℕ → ℕ → Type 0 where
  here : {d : ℕ} → Reaches rows d d
  up : {d e : ℕ} → 0 < d → Reaches rows (row rows d).parent e → Reaches rows d e

pub path_end : {rows : List Row} {d e : ℕ} → Reaches rows d e → 0 < e → Reaches rows d (row rows e).parent
path_end here gt = up gt here
path_end (up h p) gt = up h (path_end p gt)

pub path_trans : {rows : List Row} {v d e : ℕ} → Reaches rows v d → Reaches rows d e → Reaches rows v e
path_trans here q = q
path_trans (up gt p) q = up gt (path_trans p q)

-- what holds of a dataset of the path from v, and passes to parents, holds of all above it
pub path_ind : (rows : List Row) (v : ℕ) (P : ℕ → Type 0) → ((k : ℕ) → Reaches rows v k → 0 < k → P k → P (row rows k).parent) → (d e : ℕ) → Reaches rows v d → P d → Reaches rows d e → P e
path_ind rows v P step d e on base here = base
path_ind rows v P step d e on base (up gt p) =
    path_ind rows v P step (row rows d).parent e (path_end on gt) (step d on gt base) p

off : {rows : List Row} (d e : ℕ) → d ≢ e → (0 < d → Reaches rows (row rows d).parent e → ⊥) → Reaches rows d e → ⊥
off d e ne none here = ne refl
off d e ne none (up gt p) = none gt p

-- a dataset off the path of v's parent, and not v, is off the path of v
pub off-start : (rows : List Row) (v d : ℕ) → d ≢ v → (Reaches rows (row rows v).parent d → ⊥) → Reaches rows v d → ⊥
off-start rows v d ne none p = off v d (λ e. ne (sym e)) (λ gt q. none q) p

module _ (rows : List Row) (rooted : Rooted rows) where
  pub path_le : (d e : ℕ) → d < length rows → Reaches rows d e → e ≤ d
  path_le d e h here = omega arith
  path_le d e h (up gt p) = omega (arith, rooted d gt h, path_le (row rows d).parent e (omega (arith, rooted d gt h)) p)

  -- a dataset above v has not v's parent
  not-above : (v k : ℕ) → v < length rows → Reaches rows (row rows v).parent k → 0 < v → 0 < k → (row rows v).parent ≡ (row rows k).parent → ⊥
  not-above v k h p gt pk e =
      let below : (row rows v).parent < v = rooted v gt h in
      let le : k ≤ (row rows v).parent = path_le (row rows v).parent k (omega arith) p in
      omega (arith, rooted k pk (omega arith))

  pub only_child : (v d k : ℕ) → v < length rows → Reaches rows v d → Reaches rows v k → 0 < d → 0 < k → (row rows d).parent ≡ (row rows k).parent → d ≡ k
  only_child v d k h here here pd pk e = refl
  only_child v d k h here (up gt q) pd pk e = absurd (not-above v k h q gt pk e)
  only_child v d k h (up gt p) here pd pk e = absurd (not-above v d h p gt pd (sym e))
  only_child v d k h (up gt p) (up gt' q) pd pk e = only_child (row rows v).parent d k (omega (arith, rooted v gt h)) p q pd pk e

  -- no dataset of the path lies between one of it and that one's parent
  pub path-next : (v d e : ℕ) → v < length rows → Reaches rows v d → Reaches rows v e → e < d → e ≤ (row rows d).parent
  path-next v d e h here here l = omega arith
  path-next v d e h here (up gt q) l = path_le (row rows v).parent e (omega (arith, rooted v gt h)) q
  path-next v d e h (up gt p) here l = omega (arith, rooted v gt h, path_le (row rows v).parent d (omega (arith, rooted v gt h)) p)
  path-next v d e h (up gt p) (up gt' q) l = path-next (row rows v).parent d e (omega (arith, rooted v gt h)) p q l

  -- a dataset is on the path from d, or it is not
  reaches_cases : (fuel d e : ℕ) → d ≤ fuel → d < length rows → Reaches rows d e ⊎ (Reaches rows d e → ⊥)
  reaches_cases zero d e le h = elim (cases_eq d e) [ inl same ↦ inl (rw (← same) here) | inr ne ↦ inr (off d e ne (λ gt p. omega arith)) ]
  reaches_cases (suc fuel) d e le h = elim (cases_eq d e) [
    | inl same ↦ inl (rw (← same) here)
    | inr ne ↦ elim (cases_lt 0 d) [
      | inl gt ↦
          let below : (row rows d).parent < d = rooted d gt h in
          elim (reaches_cases fuel (row rows d).parent e (omega arith) (omega arith)) [ inl p ↦ inl (up gt p) | inr no-p ↦ inr (off d e ne (λ gt p. no-p p)) ]
      | inr root ↦ inr (off d e ne (λ gt p. omega arith))
    ]
  ]

  pub path_cases : (d e : ℕ) → d < length rows → Reaches rows d e ⊎ (Reaches rows d e → ⊥)
  path_cases d e h = reaches_cases d d e (le_refl d) h

  -- the list: more steps than needed add nothing
  climb-same : (f g d : ℕ) → d ≤ f → d ≤ g → d < length rows → climb rows f d ≡ climb rows g d
  unfolding climb
  climb-same zero zero d lf lg h = refl
  climb-same zero (suc g) zero lf lg h = refl
  climb-same zero (suc g) (suc d) lf lg h = absurd (omega arith)
  climb-same (suc f) zero zero lf lg h = refl
  climb-same (suc f) zero (suc d) lf lg h = absurd (omega arith)
  climb-same (suc f) (suc g) zero lf lg h = refl
  climb-same (suc f) (suc g) (suc d) lf lg h =
      let below : (row rows (suc d)).parent < suc d = rooted (suc d) (omega arith) h in
      ap (λ ds. suc d ∷ ds) (climb-same f g (row rows (suc d)).parent (omega arith) (omega arith) (omega arith))

  pub path-up : (d : ℕ) → 0 < d → d < length rows → path rows d ≡ d ∷ path rows (row rows d).parent
  unfolding climb
  path-up zero gt h = absurd (omega arith)
  path-up (suc d) gt h =
      let below : (row rows (suc d)).parent < suc d = rooted (suc d) gt h in
      ap (λ ds. suc d ∷ ds) (climb-same d (row rows (suc d)).parent (row rows (suc d)).parent (omega arith) (omega arith) (omega arith))

pub path-root : (rows : List Row) → path rows 0 ≡ 0 ∷ []
unfolding climb
path-root rows = refl

pub path_equation : PathEquation
path_equation = record { root = path-root; upward = path-up }

-- membership in a list that begins with d
pub has_first : {X : Type 0} (d : X) (ds : List X) → Has (d ∷ ds) d
has_first d ds = (0, omega arith, λ e. refl)

has_rest : {X : Type 0} (d e : X) (ds : List X) → Has ds e → Has (d ∷ ds) e
has_rest d e ds (k, l, at) = (suc k, omega arith, at)

has_cases : {X : Type 0} (d e : X) (ds : List X) → Has (d ∷ ds) e → (d ≡ e) ⊎ Has ds e
has_cases d e ds (zero, l, at) = inl (at d)
has_cases d e ds (suc k, l, at) = inr (k, omega arith, at)

has_none : {X : Type 0} (e : X) → Has [] e → ⊥
has_none e (k, l, at) = omega arith

pub all_from_has : {X : Type 0} (P : X → Type 0) (ds : List X) → ((d : X) → Has ds d → P d) → AllByRecursion P ds
all_from_has P [] each = tt
all_from_has P (d ∷ ds) each = (each d (has_first d ds), all_from_has P ds (λ e has. each e (has_rest d e ds has)))

-- the list of a path has exactly the datasets that its steps reach
climb_reaches : (rows : List Row) (fuel d e : ℕ) → Has (climb rows fuel d) e → Reaches rows d e
unfolding climb
climb_reaches rows zero d e has = elim (has_cases d e [] has) [ inl same ↦ rw same here | inr none ↦ absurd (has_none e none) ]
climb_reaches rows (suc fuel) zero e has = elim (has_cases zero e [] has) [ inl same ↦ rw same here | inr none ↦ absurd (has_none e none) ]
climb_reaches rows (suc fuel) (suc d) e has = elim (has_cases (suc d) e _ has) [
  | inl same ↦ rw same here
  | inr rest ↦ up (omega arith) (climb_reaches rows fuel (row rows (suc d)).parent e rest)
]

pub on_reaches : {rows : List Row} (v d : ℕ) → OnPath rows v d → Reaches rows v d
on_reaches {rows} v d on = climb_reaches rows v v d on

pub reaches_on : (rows : List Row) → Rooted rows → (v d : ℕ) → v < length rows → Reaches rows v d → OnPath rows v d
reaches_on rows rooted zero d h here = rw (path-root rows) (has_first 0 [])
reaches_on rows rooted zero d h (up gt p) = absurd (omega arith)
reaches_on rows rooted (suc v) d h here = rw (path-up rows rooted (suc v) (omega arith) h) (has_first (suc v) _)
reaches_on rows rooted (suc v) d h (up gt p) =
    rw (path-up rows rooted (suc v) gt h) (has_rest (suc v) d _ (reaches_on rows rooted (row rows (suc v)).parent d (omega (arith, rooted (suc v) gt h)) p))
