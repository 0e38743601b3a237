-- What is printed of a table.
use Rattle.std.specs.Prelude.{ℕ, List, [], ◌++◌, codes, decimal}
use Rattle.figure_table.specs.declared.judge.Verdict.{Verdict}
use Rattle.figure_table.specs.declared.judge.Verdict.TheVariants.{Comment, Agrees, Differs, Unreadable}
use Rattle.figure_table.specs.declared.tally.Tally.{Tally}
use Rattle.figure_table.specs.Texts.{outcome_text}

-- after a line: what the code gave, and whether that agrees; after a comment nothing
abbrev pub verdict_text : Verdict → List ℕ
verdict_text Comment = []
verdict_text (Agrees f) = codes ": got" ++ (outcome_text f.expected ++ codes ", agrees")
verdict_text (Differs f got) = codes ": got" ++ (outcome_text got ++ codes ", differs")
verdict_text Unreadable = codes ": unreadable"

-- the counts
abbrev pub summary_text : Tally → List ℕ
summary_text t = decimal t.agree ++ (codes " agree, " ++ (decimal t.differ ++ (codes " differ, " ++ (decimal t.unreadable ++ codes " unreadable"))))
