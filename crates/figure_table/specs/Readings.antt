-- What is read of a text that some figure's text, or a part of it, is. Of other texts nothing is said: the line is compared afterwards.
use Rattle.std.specs.Prelude.{◌≡◌, ℕ, ◌^◌, ◌<◌, List, ◌∷◌, ◌++◌, Some, None, codes, decimal, Option, ◌≢◌, IsSomeAnd}
use denote.Ref.{Bor}
use Rattle.orders.specs.declared.answer.Refusal.{Refusal}
use Rattle.figure_table.specs.declared.figure.Policy.{Policy}
use Rattle.figure_table.specs.declared.figure.Question.{Question}
use Rattle.figure_table.specs.declared.figure.Outcome.{Outcome}
use Rattle.figure_table.specs.declared.figure.Outcome.TheVariants.{Refused}
use Rattle.figure_table.specs.declared.figure.Figure.{Figure}
use Rattle.figure_table.specs.Texts.{policy_text, question_text, outcome_text, figure_text, SmallPolicy, SmallQuestion, SmallOutcome, Small}

-- a number that a space follows, and what is after the space
abbrev pub ReadsByte : List ℕ → Option (ℕ × Bor (List ℕ)) → Type 0
ReadsByte text o = (n : ℕ) (after : List ℕ) → n < 2 ^ 8 → text ≡ decimal n ++ (32 ∷ after) → IsSomeAnd o (λ r. (r.0 ≡ n) × (r.1.now ≡ after))

-- a number that is the whole text
abbrev pub ReadsNumber : List ℕ → Option ℕ → Type 0
ReadsNumber text o = (n : ℕ) → n < 2 ^ 16 → text ≡ decimal n → o ≡ Some n

-- a policy that a space follows, and what is after the space
abbrev pub ReadsPolicy : List ℕ → Option (Policy × Bor (List ℕ)) → Type 0
ReadsPolicy text o = (p : Policy) (after : List ℕ) → SmallPolicy p → text ≡ policy_text p ++ (32 ∷ after) → IsSomeAnd o (λ r. (r.0 ≡ p) × (r.1.now ≡ after))

-- A question's and an outcome's text begin with the space that parts them from what is before.
abbrev pub ReadsQuestion : List ℕ → Option (Question × Bor (List ℕ)) → Type 0
ReadsQuestion text o =
    (q : Question) (expected : Outcome) → SmallQuestion q → 32 ∷ text ≡ question_text q ++ outcome_text expected →
    IsSomeAnd o (λ r. (r.0 ≡ q) × (32 ∷ r.1.now ≡ outcome_text expected))

abbrev pub ReadsRefusal : List ℕ → Option Refusal → Type 0
ReadsRefusal text o = (r : Refusal) → SmallOutcome (Refused r) → codes " refused " ++ text ≡ outcome_text (Refused r) → o ≡ Some r

abbrev pub ReadsOutcome : List ℕ → Option Outcome → Type 0
ReadsOutcome text o = (expected : Outcome) → SmallOutcome expected → 32 ∷ text ≡ outcome_text expected → o ≡ Some expected

abbrev pub ReadsFigure : List ℕ → Option Figure → Type 0
ReadsFigure line o = (f : Figure) → Small f → line ≡ figure_text f → o ≡ Some f

-- The figure that a line is the text of, or that there is none.
abbrev pub Read : List ℕ → Option Figure → Type 0
Read line (Some figure) = line ≡ figure_text figure
Read line None = (f : Figure) → Small f → line ≢ figure_text f
