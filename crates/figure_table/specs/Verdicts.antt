-- What a line of a table is judged to be.
use Rattle.std.specs.Prelude.{◌≡◌, ℕ, ◌+◌, ◌-◌, ◌^◌, min, ◌⊎◌, List, length, ◌≢◌, slice_index}
use Rattle.figure_table.specs.declared.figure.Figure.{Figure}
use Rattle.figure_table.specs.declared.judge.Verdict.{Verdict}
use Rattle.figure_table.specs.declared.judge.Verdict.TheVariants.{Comment, Agrees, Differs, Unreadable}
use Rattle.figure_table.specs.declared.tally.Tally.{Tally}
use Rattle.figure_table.specs.Outcomes.{Answered}
use Rattle.figure_table.specs.Texts.{figure_text, Small}

-- blank, or begun by #
abbrev pub IsComment : List ℕ → Type 0
IsComment line = (length line ≡ 0) ⊎ (slice_index line 0 ≡ 35)

-- Of a figure: the code's outcome is what the rules give, and it is compared with the one expected.
abbrev pub JudgedFigure : Figure → Verdict → Type 0
JudgedFigure figure Comment = ⊥
JudgedFigure figure (Agrees f) = (f ≡ figure) × Answered f.policy f.question f.expected
JudgedFigure figure (Differs f got) = (f ≡ figure) × Answered f.policy f.question got × (got ≢ f.expected)
JudgedFigure figure Unreadable = ⊥

-- Of a line: a verdict on a figure is given only where the line is that figure's text, byte for byte, and a line is unreadable only
-- where it is no figure's text.
abbrev pub Judged : List ℕ → Verdict → Type 0
Judged line Comment = IsComment line
Judged line (Agrees f) = (line ≡ figure_text f) × JudgedFigure f (Agrees f)
Judged line (Differs f got) = (line ≡ figure_text f) × JudgedFigure f (Differs f got)
Judged line Unreadable = (IsComment line → ⊥) × ((f : Figure) → Small f → line ≢ figure_text f)

-- one more, up to the largest number that is kept
abbrev pub one_more : ℕ → ℕ
one_more n = min (n + 1) (2 ^ 64 - 1)

-- Each verdict but that of a comment is counted.
abbrev pub tallied : Tally → Verdict → Tally
tallied t Comment = t
tallied t (Agrees f) = record { agree = one_more t.agree; differ = t.differ; unreadable = t.unreadable }
tallied t (Differs f got) = record { agree = t.agree; differ = one_more t.differ; unreadable = t.unreadable }
tallied t Unreadable = record { agree = t.agree; differ = t.differ; unreadable = one_more t.unreadable }
