use Rattle.std.proofs.Common.{ℕ, List, refl, ap, ◌∙◌}
use Rattle.pool.specs.Marks.{bit_at, marks}
use Rattle.pool.proofs.Turns.{cleared-above, cleared-marks}
use Rattle.pool.proofs.bitmap.Bitmap.make.Goals as goal

pub returns : goal.returns
returns c =
    let n = c.args.size in
    let bs = c.args.memory.now in
    record {
      fields = (refl, refl);
      units = ap (λ (l : List ℕ). marks l n) c.clear.ensures ∙ cleared-marks bs n c.requires.2;
      holds = c.clear.ensures;
      spare = λ k h. ap (λ (l : List ℕ). bit_at l k) c.clear.ensures ∙ cleared-above bs n k h;
      named = refl;
    }
