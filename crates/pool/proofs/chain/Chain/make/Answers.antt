use Rattle.std.proofs.Common.{ℕ, List, sym, refl, ap, ◌∙◌, subst}
use Rattle.pool.specs.Links.{taken, Linked}
use Rattle.pool.proofs.Chains.{new-linked, new-taken}
use Rattle.pool.proofs.chain.Chain.make.Goals as goal

pub returns : goal.returns
returns c =
    let n = c.args.size in
    let ls = c.args.links.now in
    record {
      fields = (refl, refl);
      units = ap (λ (l : List ℕ). taken l n) c.link.ensures ∙ new-taken ls n c.requires;
      holds = c.link.ensures;
      named = refl;
    }

pub invariant_of-result : goal.invariant_of-result
invariant_of-result c =
    let n = c.args.size in
    let P : List ℕ → Type 0 = λ l. Linked l n 0 in
    record { linked = subst P (sym c.link.ensures) (new-linked c.args.links.now n c.requires) }
