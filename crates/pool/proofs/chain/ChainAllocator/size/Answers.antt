use Rattle.std.proofs.Common.{sym}
use Rattle.pool.proofs.Chains.{length_taken}
use Rattle.pool.proofs.chain.ChainAllocator.size.Goals as goal

pub returns : goal.returns
returns c = sym (length_taken c.args.self.now.links.now c.args.self.now.size)
