-- Lists of units that are taken and given back.
use Rattle.std.proofs.Common.{◌≡◌, ℕ, ◌+◌, ◌<◌, Bool, true, false, List, [], ◌∷◌, ◌++◌, length, get_or, take, drop, set, replicate, None, Some, Option, Ok, Err, Result, sym, refl, ap, ◌∙◌, subst, inl, inr, arith}
use Rattle.std.proofs.lemmas.List.{set-set, set_comm, set-get_or, length-set, take_more, take_more_set, drop-drop, drop-set-lt, length-take-le}
use Rattle.std.proofs.lemmas.Bool.{cases_eq}
use Rattle.pool.specs.declared.allocator.AllocatorFault.{AllocatorFault}
use Rattle.pool.specs.Units.{outs, Took, Gave}
use Rattle.pool.proofs.Outs.{outs-taken, outs-all}
use Rattle.pool.specs.Batches.{Takes, without, ins, emptied, Filled}

-- one more unit is taken
pub takes_more : (us vs : List Bool) (xs : List (Option ℕ)) (v : ℕ) → Takes us xs vs → v < length vs → get_or vs v false ≡ false → Takes us (xs ++ Some v ∷ []) (set vs v true)
takes_more us vs [] v t h e =
    let l : length vs ≡ length us = ap length t in
    (omega arith, ap (λ (x : List Bool). get_or x v false) (sym t) ∙ e, ap (λ (x : List Bool). set x v true) t)
takes_more us vs (None ∷ xs) v t h e = t
takes_more us vs (Some u ∷ xs) v t h e = (t.0, t.1, takes_more (set us u true) vs xs v t.2 h e)

-- so many more are out
pub takes_outs : (us vs : List Bool) (xs : List (Option ℕ)) → Takes us xs vs → (outs vs ≡ outs us + length xs) × (length vs ≡ length us)
takes_outs us vs [] t = (omega (arith, ap outs t), ap length t)
takes_outs us vs (None ∷ xs) t = absurd t
takes_outs us vs (Some u ∷ xs) t =
    let i = takes_outs (set us u true) vs xs t.2 in
    let o = outs-taken us u t.0 t.1 in
    let l = length-set us u true in
    (omega arith, omega arith)

-- the order in which units come in does not matter
without-set : (us : List Bool) (xs : List (Option ℕ)) (u : ℕ) → without (set us u false) xs ≡ set (without us xs) u false
without-set us [] u = refl
without-set us (None ∷ xs) u = without-set us xs u
without-set us (Some x ∷ xs) u =
    let swapped : set (set us u false) x false ≡ set (set us x false) u false = elim (cases_eq u x) [
      | inl e ↦ ap (λ (k : ℕ). set (set us u false) k false) (sym e) ∙ ap (λ (k : ℕ). set (set us k false) u false) e
      | inr n ↦ set_comm us u x false false n
    ] in
    ap (λ (l : List Bool). without l xs) swapped ∙ without-set (set us x false) xs u

-- what was taken and is given back
pub takes_without : (us vs : List Bool) (xs : List (Option ℕ)) → Takes us xs vs → without vs xs ≡ us
takes_without us vs [] t = t
takes_without us vs (None ∷ xs) t = absurd t
takes_without us vs (Some u ∷ xs) t =
    without-set vs xs u ∙ ap (λ (l : List Bool). set l u false) (takes_without (set us u true) vs xs t.2)
    ∙ set-set us u true false
    ∙ ap (λ (b : Bool). set us u b) (sym t.1)
    ∙ set-get_or us u false

without_more : (us : List Bool) (xs : List (Option ℕ)) (u : ℕ) → without us (xs ++ Some u ∷ []) ≡ set (without us xs) u false
without_more us [] u = refl
without_more us (None ∷ xs) u = without_more us xs u
without_more us (Some x ∷ xs) u = without_more (set us x false) xs u

without_none : (us : List Bool) (xs : List (Option ℕ)) → without us (xs ++ None ∷ []) ≡ without us xs
without_none us [] = refl
without_none us (None ∷ xs) = without_none us xs
without_none us (Some x ∷ xs) = without_none (set us x false) xs

-- a unit that is given back is in afterwards, whether it was out or not
gave_in : (us vs : List Bool) (u : ℕ) (r : Result (Unit {0}) AllocatorFault) → Gave us vs u r → vs ≡ set us u false
gave_in us vs u (Ok _) g = g.1
gave_in us vs u (Err f) g = g.2 ∙ sym (ap (λ (b : Bool). set us u b) (sym g.1) ∙ set-get_or us u false)

-- one turn of the loop that gives back, at a place with a unit and at one without
pub giving : (us vs ws : List Bool) (xs : List (Option ℕ)) (i u : ℕ) (r : Result (Unit {0}) AllocatorFault) → i < length xs → get_or xs i None ≡ Some u → vs ≡ without us (take i xs) → Gave vs ws u r → ws ≡ without us (take (i + 1) xs)
giving us vs ws xs i u r h x e g =
    gave_in vs ws u r g ∙ ap (λ (z : List Bool). set z u false) e ∙ sym (without_more us (take i xs) u)
    ∙ ap (λ (o : Option ℕ). without us (take i xs ++ o ∷ [])) (sym x)
    ∙ ap (without us) (sym (take_more xs i None h))

pub passing : (us vs : List Bool) (xs : List (Option ℕ)) (i : ℕ) → i < length xs → get_or xs i None ≡ None → vs ≡ without us (take i xs) → vs ≡ without us (take (i + 1) xs)
passing us vs xs i h x e =
    e ∙ sym (without_none us (take i xs))
    ∙ ap (λ (o : Option ℕ). without us (take i xs ++ o ∷ [])) (sym x)
    ∙ ap (without us) (sym (take_more xs i None h))

-- one turn of the loop that takes
pub taking : (us vs ws : List Bool) (xs ys : List (Option ℕ)) (i u : ℕ) → i < length ys → Takes us (take i ys) vs → drop i ys ≡ drop i xs → Took vs ws (Ok u) → Takes us (take (i + 1) (set ys i (Some u))) ws × (drop (i + 1) (set ys i (Some u)) ≡ drop (i + 1) xs)
taking us vs ws xs ys i u h t d o =
    let P : List Bool → Type 0 = λ l. Takes us (take i ys ++ Some u ∷ []) l in
    let Q : List (Option ℕ) → Type 0 = λ l. Takes us l ws in (
      subst Q (sym (take_more_set ys i (Some u) h)) (subst P (sym o.2) (takes_more us vs (take i ys) u t o.0 o.1)),
      drop-set-lt (i + 1) ys i (Some u) (omega arith) ∙ sym (drop-drop 1 i ys) ∙ ap (drop 1) d ∙ drop-drop 1 i xs,
    )

-- the loop that takes is refused
pub refusing : (us vs ts ws : List Bool) (xs ys zs : List (Option ℕ)) (i : ℕ) (f : AllocatorFault) → i < length xs → length ys ≡ length xs → Takes us (take i ys) vs → drop i ys ≡ drop i xs → Took vs ts (Err f) → ws ≡ without ts (take i ys) → zs ≡ replicate (length (take i ys)) None → Filled us ws xs (zs ++ drop i ys) (Err f)
refusing us vs ts ws xs ys zs i f h l t d o w z =
    let c = takes_outs us vs (take i ys) t in
    let a : outs vs ≡ length vs = outs-all vs o.1 in
    let n : length (take i ys) ≡ i = length-take-le i ys (omega arith) in
    let k : ins us ≡ i = omega arith in (
      o.0,
      omega arith,
      w ∙ ap (λ (b : List Bool). without b (take i ys)) o.2 ∙ takes_without us vs (take i ys) t,
      ap (λ (e : List (Option ℕ)). e ++ drop i ys) (z ∙ ap (λ (m : ℕ). replicate m None) n) ∙ ap (λ (e : List (Option ℕ)). replicate i None ++ e) d ∙ ap (emptied xs) (sym k),
    )
