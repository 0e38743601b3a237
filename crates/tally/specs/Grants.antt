-- Unspent grants, by the worst cost alone.
use Rattle.std.specs.Prelude.{ℕ, ◌*◌, cond, ◌==◌}
use Rattle.rules.specs.declared.state.Transaction.{Transaction}
use Rattle.rules.specs.declared.state.Transaction.TheVariants.{Idle, Created, Held, Assigned}

-- what a transaction has on volume v
abbrev pub grant_by : ℕ → ℕ → Transaction → ℕ
grant_by worst v Idle = 0
grant_by worst v (Created u) = 0
grant_by worst v (Held u w f) = 0
grant_by worst v (Assigned u w f) = cond (u == v) (w * worst) 0
