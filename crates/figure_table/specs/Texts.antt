-- A figure as a line of text.
use Rattle.std.specs.Prelude.{ℕ, ◌^◌, ◌<◌, List, [], ◌++◌, codes, decimal}
use Rattle.orders.specs.Layout.{layer_number}
use Rattle.figure_table.specs.declared.figure.Policy.{Policy}
use Rattle.figure_table.specs.declared.figure.Policy.TheVariants.{Copies, Parity}
use Rattle.figure_table.specs.declared.figure.Question.{Question}
use Rattle.figure_table.specs.declared.figure.Question.TheVariants.{Make, Cost, Worst}
use Rattle.figure_table.specs.declared.figure.Outcome.{Outcome}
use Rattle.figure_table.specs.declared.figure.Outcome.TheVariants.{Accepted, Units, Refused}
use Rattle.figure_table.specs.declared.figure.Figure.{Figure}

-- copies 2, parity 1 3
abbrev pub policy_text : Policy → List ℕ
policy_text (Copies n) = codes "copies " ++ decimal n
policy_text (Parity p w) = codes "parity " ++ (decimal p ++ (codes " " ++ decimal w))

-- nothing, size 4, worst
abbrev pub question_text : Question → List ℕ
question_text Make = []
question_text (Cost size) = codes " size " ++ decimal size
question_text Worst = codes " worst"

-- accepted, cost 6, refused 10 layer 2 item 17 amount 16
abbrev pub outcome_text : Outcome → List ℕ
outcome_text Accepted = codes " accepted"
outcome_text (Units n) = codes " cost " ++ decimal n
outcome_text (Refused r) = codes " refused " ++ (decimal r.number ++ (codes " layer " ++ (decimal (layer_number r.layer) ++ (codes " item " ++ (decimal r.item ++ (codes " amount " ++ decimal r.amount))))))

abbrev pub figure_text : Figure → List ℕ
figure_text f = policy_text f.policy ++ (question_text f.question ++ outcome_text f.expected)

-- The numbers of a figure are those of its types: one byte, or two for units and amounts.
abbrev pub SmallPolicy : Policy → Type 0
SmallPolicy (Copies n) = n < 2 ^ 8
SmallPolicy (Parity p w) = (p < 2 ^ 8) × (w < 2 ^ 8)

abbrev pub SmallQuestion : Question → Type 0
SmallQuestion Make = Unit {0}
SmallQuestion (Cost size) = size < 2 ^ 8
SmallQuestion Worst = Unit {0}

abbrev pub SmallOutcome : Outcome → Type 0
SmallOutcome Accepted = Unit {0}
SmallOutcome (Units n) = n < 2 ^ 16
SmallOutcome (Refused r) = (r.number < 2 ^ 8) × (r.item < 2 ^ 8) × (r.amount < 2 ^ 16)

abbrev pub Small : Figure → Type 0
Small f = SmallPolicy f.policy × SmallQuestion f.question × SmallOutcome f.expected
