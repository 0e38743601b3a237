use Rattle.std.proofs.Common.{◌≡◌, ◌+◌, ◌-◌, ◌≤◌, ◌++◌, length, take, drop, ap, ◌∙◌, arith}
use Rattle.orders.specs.Layout.{answer_bytes}
use Rattle.orders.proofs.Laid.{laid_between}
use Rattle.orders.proofs.answer.Answer.write_to.Goals as goal

pub returns : goal.returns
returns c =
    let out = c.args.out.now in
    let at = c.args.at in
    let bytes = answer_bytes c.args.self.now in
    let fits : at + length bytes ≤ length out = omega (arith, c.byte_len-needed.ensures, c.if-out-at.false, c.if-at-out.false) in
    let count : at + c.byte_len-needed.result - at ≡ length bytes = omega (arith, c.byte_len-needed.ensures) in (
      fits,
      c.byte_len-needed.ensures,
      ap (λ bs. take at out ++ (bs ++ drop (at + c.byte_len-needed.result - at) (drop at out))) c.fill.ensures
          ∙ ap (λ n. take at out ++ (bytes ++ drop n (drop at out))) count
          ∙ laid_between out at bytes fits,
    )
