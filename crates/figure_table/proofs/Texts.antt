-- Every figure's text is text.
use Rattle.std.proofs.Common.{ℕ, ◌^◌, ◌<◌, List, [], ◌++◌, codes, IsUtf8, decimal, refl, arith}
use Rattle.std.proofs.lemmas.Fmt.{IsAscii-decimal}
use Rattle.std.proofs.lemmas.Str.{IsUtf8-append, IsUtf8-from_ascii}
use Rattle.orders.specs.Layout.{layer_number}
use Rattle.orders.specs.declared.answer.Layer.{Layer}
use Rattle.orders.specs.declared.answer.Layer.TheVariants.{Script, Transactions, Tree, Allocator}
use Rattle.figure_table.specs.declared.figure.Policy.{Policy}
use Rattle.figure_table.specs.declared.figure.Policy.TheVariants.{Copies, Parity}
use Rattle.figure_table.specs.declared.figure.Question.{Question}
use Rattle.figure_table.specs.declared.figure.Question.TheVariants.{Make, Cost, Worst}
use Rattle.figure_table.specs.declared.figure.Outcome.{Outcome}
use Rattle.figure_table.specs.declared.figure.Outcome.TheVariants.{Accepted, Units, Refused}
use Rattle.figure_table.specs.declared.figure.Figure.{Figure}
use Rattle.figure_table.specs.Texts.{policy_text, question_text, outcome_text, figure_text, SmallPolicy, SmallQuestion, SmallOutcome, Small}

layer_small : (l : Layer) → layer_number l < 2 ^ 8
layer_small Script = omega arith
layer_small Transactions = omega arith
layer_small Tree = omega arith
layer_small Allocator = omega arith

utf8_decimal : (n : ℕ) → n < 2 ^ 64 → IsUtf8 (decimal n)
utf8_decimal n h = IsUtf8-from_ascii (decimal n) (IsAscii-decimal n h)

-- words, a number and what follows them
utf8_number : (words : List ℕ) (n : ℕ) (after : List ℕ) → IsUtf8 words → n < 2 ^ 16 → IsUtf8 after → IsUtf8 (words ++ (decimal n ++ after))
utf8_number words n after text small rest = IsUtf8-append words _ text (IsUtf8-append (decimal n) after (utf8_decimal n (omega arith)) rest)

utf8_last : (words : List ℕ) (n : ℕ) → IsUtf8 words → n < 2 ^ 16 → IsUtf8 (words ++ decimal n)
utf8_last words n text small = IsUtf8-append words (decimal n) text (utf8_decimal n (omega arith))

utf8_policy : (p : Policy) → SmallPolicy p → IsUtf8 (policy_text p)
unfolding lib.Utf8.encode
utf8_policy (Copies n) small = utf8_last (codes "copies ") n (codes "copies ", (refl, refl)) (omega arith)
utf8_policy (Parity p w) small =
    utf8_number (codes "parity ") p _ (codes "parity ", (refl, refl)) (omega arith) (utf8_last (codes " ") w (codes " ", (refl, refl)) (omega arith))

utf8_question : (q : Question) → SmallQuestion q → IsUtf8 (question_text q)
unfolding lib.Utf8.encode
utf8_question Make small = ([], (refl, refl))
utf8_question (Cost n) small = utf8_last (codes " size ") n (codes " size ", (refl, refl)) (omega arith)
utf8_question Worst small = (codes " worst", (refl, refl))

utf8_outcome : (o : Outcome) → SmallOutcome o → IsUtf8 (outcome_text o)
unfolding lib.Utf8.encode
utf8_outcome Accepted small = (codes " accepted", (refl, refl))
utf8_outcome (Units n) small = utf8_last (codes " cost ") n (codes " cost ", (refl, refl)) small
utf8_outcome (Refused r) small =
    utf8_number (codes " refused ") r.number _ (codes " refused ", (refl, refl)) (omega arith)
    (utf8_number (codes " layer ") (layer_number r.layer) _ (codes " layer ", (refl, refl)) (omega (arith, layer_small r.layer))
    (utf8_number (codes " item ") r.item _ (codes " item ", (refl, refl)) (omega arith)
    (utf8_last (codes " amount ") r.amount (codes " amount ", (refl, refl)) small.2)))

pub utf8_figure : (f : Figure) → Small f → IsUtf8 (figure_text f)
utf8_figure f small =
    IsUtf8-append (policy_text f.policy) _ (utf8_policy f.policy small.0)
    (IsUtf8-append (question_text f.question) (outcome_text f.expected) (utf8_question f.question small.1) (utf8_outcome f.expected small.2))
