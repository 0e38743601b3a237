use Rattle.std.proofs.Common.{◌≡◌, ℕ, ◌+◌, ◌-◌, map, sym, refl, ap, ◌∙◌, arith}
use Rattle.marks.specs.Sound.{holders_of}
use Rattle.rules.specs.Holders.{defer}
use Rattle.rules.specs.Marks.{defer_from}
use Rattle.ledger.proofs.Moves.{defer-more, defer-none}
use Rattle.ledger.proofs.units.defer_from.Goals as goal

pub loop-number-init : goal.loop-number-init
loop-number-init g c =
    let hs = holders_of c.args.marks.now in
    (sym (ap (λ (k : ℕ). defer_from c.args.volume c.args.start k hs) (omega arith) ∙ defer-none c.args.volume c.args.start hs), refl, refl, omega arith)

pub loop-number-preserved : goal.loop-number-preserved
loop-number-preserved g c =
    let v = c.args.volume in
    let s = c.args.start in
    let i = c.loop-number.number in
    let hs = holders_of c.args.marks.now in
    let e = c.defer.ensures in
    let inv = c.loop-number.invariant in
    let past : s + (i - s) ≡ i = omega arith in
    let one : i - s + 1 ≡ i + 1 - s = omega arith in (
      e.holders ∙ ap (map (defer v i)) inv.0 ∙ ap (λ (k : ℕ). map (defer v k) (defer_from v s (i - s) hs)) (sym past)
          ∙ sym (defer-more v s (i - s) hs) ∙ ap (λ (k : ℕ). defer_from v s k hs) one,
      e.kept ∙ inv.1,
      e.sized ∙ inv.2,
      omega arith,
    )
