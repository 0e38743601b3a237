use Rattle.std.proofs.Common.{refl, arith}
use Rattle.pool.proofs.Chains.{all-taken, head_below, taken-linked, took_head, beside-set}
use Rattle.pool.proofs.chain.ChainAllocator.take.Goals as goal

pub returns-then-unit-self : goal.returns-then-unit-self
returns-then-unit-self c = record { took = (refl, all-taken _ _ _ c.args.self.now.linked c.if-unit-self.true, refl); kept = refl; holds = (refl, refl); lent = refl; named = refl }

pub bounds-self-at : goal.bounds-self-at
bounds-self-at c = let h = head_below _ _ _ c.args.self.now.linked c.if-unit-self.false in omega (arith, c.args.self.now.linked.space.2)

pub bounds-self-at-2 : goal.bounds-self-at-2
bounds-self-at-2 c = let h = head_below _ _ _ c.args.self.now.linked c.if-unit-self.false in omega (arith, c.args.self.now.linked.space.2)

pub returns : goal.returns
returns c =
    let w = c.args.self.now.linked in
    rw c.from-at.ensures (record {
      took = took_head _ _ _ w c.if-unit-self.false;
      kept = tt;
      holds = (refl, refl, refl);
      lent = beside-set _ _ _ _ _ (head_below _ _ _ w c.if-unit-self.false);
      named = refl;
    })

pub invariant_of-self : goal.invariant_of-self
invariant_of-self c = rw c.from-at.ensures (record { linked = taken-linked _ _ _ c.args.self.now.linked c.if-unit-self.false })
