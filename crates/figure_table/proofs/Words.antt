-- The first word of a text, and an outcome's.
use Rattle.std.proofs.Common.{◌≡◌, ℕ, zero, suc, ◌<◌, Bool, true, false, cond, eqb, List, [], ◌∷◌, ◌++◌, length, codes, sym, refl, ◌∙◌, inl, inr, ◌⊎◌, ◌≢◌, slice_index, arith}
use Rattle.figure_table.specs.declared.figure.Outcome.{Outcome}
use Rattle.figure_table.specs.declared.figure.Outcome.TheVariants.{Accepted, Units, Refused}
use Rattle.figure_table.specs.Texts.{outcome_text}

-- no space in it
abbrev pub Spaceless : List ℕ → Type 0
Spaceless bs = (i : ℕ) → i < length bs → slice_index bs i ≢ 32

-- up to the first space, and after it; with no space, all and nothing
abbrev pub FirstWord : List ℕ → List ℕ → List ℕ → Type 0
FirstWord text word rest = Spaceless word × ((text ≡ word ++ (32 ∷ rest)) ⊎ ((text ≡ word) × (rest ≡ [])))

spaceless_tail : (b : ℕ) (bs : List ℕ) → Spaceless (b ∷ bs) → Spaceless bs
spaceless_tail b bs h = λ i l e. h (suc i) (omega arith) e

same_head : (a b : ℕ) (xs ys : List ℕ) → a ∷ xs ≡ b ∷ ys → a ≡ b
same_head a b xs ys e = cc

pub same_tail : (a b : ℕ) (xs ys : List ℕ) → a ∷ xs ≡ b ∷ ys → xs ≡ ys
same_tail a b xs ys e = cc

same-words :
    (w v rest after : List ℕ) → Spaceless w → Spaceless v → w ++ (32 ∷ rest) ≡ v ++ (32 ∷ after) → (w ≡ v) × (rest ≡ after)
same-words [] [] rest after h k e = (refl, same_tail _ _ _ _ e)
same-words [] (b ∷ v) rest after h k e = absurd (k 0 (omega arith) (sym (same_head _ _ _ _ e)))
same-words (a ∷ w) [] rest after h k e = absurd (h 0 (omega arith) (same_head _ _ _ _ e))
same-words (a ∷ w) (b ∷ v) rest after h k e =
    let both = same-words w v rest after (spaceless_tail a w h) (spaceless_tail b v k) (same_tail _ _ _ _ e) in
    let first : a ≡ b = same_head _ _ _ _ e in
    let others : w ≡ v = both.0 in
    (cc, both.1)

not_spaceless : (w rest : List ℕ) → Spaceless (w ++ (32 ∷ rest)) → ⊥
not_spaceless [] rest h = h 0 (omega arith) refl
not_spaceless (a ∷ w) rest h = not_spaceless w rest (spaceless_tail a (w ++ (32 ∷ rest)) h)

-- the first word, where a space follows it
pub word-then :
    {text word rest : List ℕ} (v after : List ℕ) → FirstWord text word rest → Spaceless v → text ≡ v ++ (32 ∷ after) → (word ≡ v) × (rest ≡ after)
word-then {text} {word} {rest} v after (lacks, inl e) h is = same-words word v rest after lacks h (sym e ∙ is)
word-then {text} {word} {rest} v after (lacks, inr (all, none)) h is =
    absurd (not_spaceless v after (rw (sym all ∙ is) at lacks))

-- and where it is all
pub word_alone : {text word rest : List ℕ} → FirstWord text word rest → Spaceless text → word ≡ text
word_alone {text} {word} {rest} (lacks, inl e) h = absurd (not_spaceless word rest (rw e at h))
word_alone {text} {word} {rest} (lacks, inr (all, none)) h = sym all

abbrev space_free : List ℕ → Bool
space_free [] = true
space_free (b ∷ bs) = cond (eqb b 32) false (space_free bs)

free_tail : (space rest : Bool) → cond space false rest ≡ true → rest ≡ true
free_tail true rest h = let z : ◌≡◌ {A = ℕ} 0 1 = cc in absurd (omega arith)
free_tail false rest h = h

-- words that are written out
pub spaceless_lit : (bs : List ℕ) → space_free bs ≡ true → Spaceless bs
spaceless_lit [] h i l e = omega arith
spaceless_lit (b ∷ bs) h zero l e =
    let free : false ≡ true = rw e at h in
    let z : ◌≡◌ {A = ℕ} 0 1 = cc in
    omega arith
spaceless_lit (b ∷ bs) h (suc i) l e = spaceless_lit bs (free_tail (eqb b 32) (space_free bs) h) i (omega arith) e

-- an outcome's first word, and what follows it
abbrev outcome_word : Outcome → List ℕ
outcome_word Accepted = codes "accepted"
outcome_word (Units n) = codes "cost"
outcome_word (Refused r) = codes "refused"

outcome_word_lem : {text word rest : List ℕ} (o : Outcome) → FirstWord text word rest → 32 ∷ text ≡ outcome_text o → word ≡ outcome_word o
outcome_word_lem Accepted first e = let all = same_tail _ _ _ _ e in word_alone first (rw all (spaceless_lit (codes "accepted") refl)) ∙ all
outcome_word_lem (Units n) first e = (word-then (codes "cost") _ first (spaceless_lit (codes "cost") refl) (same_tail _ _ _ _ e)).0
outcome_word_lem (Refused r) first e = (word-then (codes "refused") _ first (spaceless_lit (codes "refused") refl) (same_tail _ _ _ _ e)).0
