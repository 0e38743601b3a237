-- Lists of holders, changed one by one.
use Rattle.std.proofs.Common.{◌≡◌, ℕ, zero, suc, ◌+◌, ◌<◌, Bool, true, false, cond, List, [], ◌∷◌, map, length, get_or, take, set, count_by, sym, refl, ap, ◌∙◌, arith}
use Rattle.std.proofs.lemmas.List.{set-get_or, map-set}
use Rattle.std.proofs.lemmas.List.Sums.{sum_by-cons, sum_by-set}

pub take_set_at : {X : Type 0} (n : ℕ) (xs : List X) (u : ℕ) (y : X) → take n (set xs u y) ≡ set (take n xs) u y
take_set_at zero xs u y = refl
take_set_at (suc n) [] u y = refl
take_set_at (suc n) (x ∷ xs) zero y = refl
take_set_at {X} (suc n) (x ∷ xs) (suc u) y = ap (λ (l : List X). x ∷ l) (take_set_at n xs u y)

pub map_at : {X Y : Type 0} (f : X → Y) (xs : List X) (u : ℕ) (d : X) → get_or (map f xs) u (f d) ≡ f (get_or xs u d)
map_at f [] u d = refl
map_at f (x ∷ xs) zero d = refl
map_at f (x ∷ xs) (suc u) d = map_at f xs u d

-- an entry that passes becomes one that does not, and that is mapped to the same: one fewer passes
pub moved-one : {X : Type 0} (f : X → X) (p : X → Bool) (xs : List X) (u : ℕ) (y d : X) → u < length xs → f y ≡ f (get_or xs u d) → p (get_or xs u d) ≡ true → p y ≡ false →
    (map f (set xs u y) ≡ map f xs) × (count_by p (set xs u y) + 1 ≡ count_by p xs)
moved-one {X} f p xs u y d l e was is =
    let c = sum_by-set (λ (x : X). cond (p x) 1 0) xs u y d l in
    let a : ◌≡◌ {A = ℕ} (cond (p (get_or xs u d)) 1 0) 1 = ap {B = ℕ} (λ (b : Bool). cond b 1 0) was in
    let b : ◌≡◌ {A = ℕ} (cond (p y) 1 0) 0 = ap {B = ℕ} (λ (b : Bool). cond b 1 0) is in (
      map-set f xs u y ∙ ap (set (map f xs) u) (e ∙ sym (map_at f xs u d)) ∙ set-get_or (map f xs) u (f d),
      omega arith,
    )

-- where no entry passes, and one that does not pass is mapped to itself
pub moved_none : {X : Type 0} (f : X → X) (p : X → Bool) (d : X) → ((x : X) → p x ≡ false → f x ≡ x) → (xs : List X) → ((u : ℕ) → p (get_or xs u d) ≡ false) →
    (map f xs ≡ xs) × (count_by p xs ≡ 0)
moved_none f p d still [] none = (refl, refl)
moved_none {X} f p d still (x ∷ xs) none =
    let i = moved_none f p d still xs (λ u. none (suc u)) in
    let b : ◌≡◌ {A = ℕ} (cond (p x) 1 0) 0 = ap {B = ℕ} (λ (t : Bool). cond t 1 0) (none 0) in (
      ap (λ (h : X). h ∷ map f xs) (still x (none 0)) ∙ ap (λ (l : List X). x ∷ l) i.0,
      omega (arith, i.1, sum_by-cons (λ (y : X). cond (p y) 1 0) x xs),
    )
