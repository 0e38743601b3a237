-- What holds of every entry of a list, after one is set or added, and of a list of equal entries.
use Rattle.std.proofs.Common.{◌≡◌, ℕ, zero, suc, ◌<◌, ◌≢◌, List, [], ◌∷◌, ◌++◌, length, get_or, set, replicate, sym, refl, ap, ◌∙◌, subst, inl, inr, arith}
use Rattle.std.proofs.lemmas.List.{length_push, get_or_past, get_or_push, get_or_append_left, get_or-set_same, get_or-set_other}
use Rattle.std.proofs.lemmas.Bool.{cases_eq, cases_order}

module _ {X : Type 0} (P : X → Type 0) (xs : List X) where
  pub entry_set : (i : ℕ) (y : X) (j : ℕ) (d : X) → i < length xs → (j ≡ i → P y) → (j ≢ i → P (get_or xs j d)) → P (get_or (set xs i y) j d)
  entry_set i y j d l here elsewhere = elim (cases_eq j i) [
    | inl e ↦ subst P (sym (ap (λ (k : ℕ). get_or (set xs i y) k d) e ∙ get_or-set_same xs i y d l)) (here e)
    | inr ne ↦ subst P (sym (get_or-set_other xs i j y d ne)) (elsewhere ne)
  ]

  pub entry_push : (y : X) (j : ℕ) (d : X) → (j ≡ length xs → P y) → (j < length xs → P (get_or xs j d)) → (length xs < j → P d) → P (get_or (xs ++ y ∷ []) j d)
  entry_push y j d last before past = elim (cases_order j (length xs)) [
    | inl e ↦ subst P (sym (get_or_push xs y d j (sym e))) (last e)
    | inr (inl l) ↦ subst P (sym (get_or_append_left xs (y ∷ []) d j l)) (before l)
    | inr (inr l) ↦ subst P (sym (get_or_past (xs ++ y ∷ []) j d (omega (arith, length_push xs y)))) (past l)
  ]

-- all alike
pub entry-replicate : {X : Type 0} (n j : ℕ) (d : X) → get_or (replicate n d) j d ≡ d
entry-replicate zero j d = refl
entry-replicate (suc n) zero d = refl
entry-replicate (suc n) (suc j) d = entry-replicate n j d
