use Rattle.std.proofs.Common.{ℕ, false, replicate, sym, ap, ◌∙◌, subst, arith}
use Rattle.rules.specs.declared.state.Holder.TheVariants.{Nobody}
use Rattle.tally.specs.Parts.{Fresh}
use Rattle.ledger.proofs.Outs.{checked}
use Rattle.ledger.proofs.Laws as laws
use Rattle.ledger.proofs.Ledger.make.Goals as goal

pub make-requires-2 : goal.make-requires-2
make-requires-2 g c = (checked c.args.slop (g.A.Allocator.units c.args.pool) c.requires).all_in

pub invariant_of-result : goal.invariant_of-result
invariant_of-result g c =
    let U = g.A.Allocator.units in
    let b = checked c.args.slop (U c.args.pool) c.requires in
    let s = g.A.Allocator.sized c.args.pool in
    let size = c.size-size.result in
    let e = c.size-size.ensures in
    let m = c.make-2.ensures in
    let new = subst (λ (w : ℕ). Fresh size c.args.slop w c.make.result) c.worst-worst.ensures c.make.ensures in
    let nobody = m.holders ∙ ap (λ (n : ℕ). replicate n Nobody) (sym e) in
    let all_in = ap U m.kept ∙ b.all_in ∙ ap (λ (n : ℕ). replicate n false) (sym e) in
    record {
      sound = ∣ laws.new-sound g.A.Allocator g.P.CostPolicy size c.args.slop c.make.result c.make-2.result c.args.policy (omega arith) (omega arith) (omega arith) new nobody all_in ∣₁;
    }

pub returns-clause-sound : goal.returns-clause-sound
returns-clause-sound g c =
    let U = g.A.Allocator.units in
    let b = checked c.args.slop (U c.args.pool) c.requires in
    let s = g.A.Allocator.sized c.args.pool in
    let size = c.size-size.result in
    let e = c.size-size.ensures in
    let m = c.make-2.ensures in
    let new = subst (λ (w : ℕ). Fresh size c.args.slop w c.make.result) c.worst-worst.ensures c.make.ensures in
    let nobody = m.holders ∙ ap (λ (n : ℕ). replicate n Nobody) (sym e) in
    let all_in = ap U m.kept ∙ b.all_in ∙ ap (λ (n : ℕ). replicate n false) (sym e) in
    laws.new-sound g.A.Allocator g.P.CostPolicy size c.args.slop c.make.result c.make-2.result c.args.policy (omega arith) (omega arith) (omega arith) new nobody all_in

pub returns-clause-stands : goal.returns-clause-stands
returns-clause-stands g c =
    let U = g.A.Allocator.units in
    let b = checked c.args.slop (U c.args.pool) c.requires in
    let s = g.A.Allocator.sized c.args.pool in
    let size = c.size-size.result in
    let e = c.size-size.ensures in
    let m = c.make-2.ensures in
    let new = subst (λ (w : ℕ). Fresh size c.args.slop w c.make.result) c.worst-worst.ensures c.make.ensures in
    let nobody = m.holders ∙ ap (λ (n : ℕ). replicate n Nobody) (sym e) in
    let all_in = ap U m.kept ∙ b.all_in ∙ ap (λ (n : ℕ). replicate n false) (sym e) in
    laws.new-stands g.A.Allocator g.P.CostPolicy size c.args.slop c.make.result c.make-2.result c.args.policy (omega arith) (omega arith) (omega arith) new nobody all_in
