use Rattle.std.proofs.Common.{◌<◌, sym, refl, arith}
use Rattle.pool.proofs.Chains.{out_under, given_linked, gave_back, beside-set}
use Rattle.pool.proofs.chain.ChainAllocator.give.Goals as goal

pub bounds-self-from : goal.bounds-self-from
bounds-self-from c = let h : c.args.unit < c.args.self.now.size = (out_under _ _ _ (sym c.if-not-is_out.ensures)).0 in omega (arith, c.args.self.now.linked.space.2, c.from.ensures)

pub returns : goal.returns
returns c =
    let e = sym c.if-not-is_out.ensures in
    let o = out_under _ _ _ e in
    rw c.from.ensures (record {
      gave = gave_back _ _ _ _ c.args.self.now.linked e;
      kept = tt;
      holds = (refl, refl);
      lent = beside-set _ _ _ _ _ o.0;
      named = refl;
    })

pub invariant_of-self : goal.invariant_of-self
invariant_of-self c = let o = out_under _ _ _ (sym c.if-not-is_out.ensures) in rw c.from.ensures (record { linked = given_linked _ _ _ _ c.args.self.now.linked o.0 o.1 })
