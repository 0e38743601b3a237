-- What holds of every ledger; and what an order does keeps it sound and lengthens each journal that stands.
use Rattle.std.proofs.Common.{◌≡◌, ℕ, ◌<◌, ◌≤◌, Bool, false, List, [], ◌∷◌, length, replicate, sym, refl, ap, ◌∙◌, subst}
use Rattle.std.proofs.lemmas.List.{length-replicate}
use mathlib.Core.Logic.{∥∥₁_elim, ∥∥₁_prop}
use mathlib.Core.HLevel.{is_prop→PathP}
use native.Mathlib.Nat.{ℕ_set}
use Rattle.pool.specs.declared.allocator.Allocator.{Ghosts as AllocatorMembers}
use Rattle.costs.specs.declared.policy.CostPolicy.{Ghosts as PolicyMembers}
use Rattle.orders.specs.declared.answer.Answer.{Answer}
use Rattle.orders.specs.declared.answer.Answer.TheVariants.{Done, Refused, Told, Stopped}
use Rattle.orders.specs.Meaning.{Meaning}
use Rattle.rules.specs.declared.state.Holder.{Holder}
use Rattle.rules.specs.declared.state.Holder.TheVariants.{Nobody}
use Rattle.rules.specs.Figures.{Figures, Sane}
use Rattle.rules.specs.Book.{Book, fresh}
use Rattle.rules.specs.Answers.{answer}
use Rattle.rules.specs.Marks.{mark}
use Rattle.rules.specs.Journal.{Entry, book_after, holders_after}
use Rattle.rules.specs.Theorems.{Moves, Moved, Fits}
use Rattle.rules.specs.Invariant.{Shaped, Fair}
use Rattle.rules.specs.Standing.{entry, Standing}
use Rattle.rules.proofs.Journals.{fair-fresh, fair-step}
use Rattle.rules.proofs.Standings.{standing-fresh, standing-next}
use Rattle.marks.specs.declared.marks.Marks.{Marks}
use Rattle.marks.specs.Sound.{pool_of as pool_in, holders_of as holders_in, size_of}
use Rattle.marks.proofs.Takes.{marks_sound}
use Rattle.tally.specs.declared.Tally.{Tally}
use Rattle.tally.specs.Parts.{book_of as book_in, figures_of, Left, Did as TallyDid, Fresh}
use Rattle.tally.proofs.Sounds.{shaped}
use Rattle.ledger.specs.declared.Ledger.{Ledger}
use Rattle.ledger.specs.Joined.{figures_in, StandsIn, SoundIn}
use Rattle.ledger.specs.Parts.{book_of, holders_of, pool_of, units_of, figures, Stands, Sound, Untouched, PoolKept, DidTo}
use Rattle.ledger.proofs.Once.{accounted_once, summed_once}

marked_by : (b : Book) (m : Meaning) (a : Answer) (us : List Bool) (hs : List Holder) → mark b m us us hs ≡ hs → hs ≡ holders_after b m a us us hs
marked_by b m (Done v) us hs e = sym e
marked_by b m (Refused f) us hs e = refl
marked_by b m (Told f) us hs e = sym e
marked_by b m (Stopped n p) us hs e = refl

moved_by : (F : Figures) (m : Meaning) (a : Answer) (us : List Bool) (hs : List Holder) → Moves F m hs us us → Moved F m a hs us us
moved_by F m (Done v) us hs e = e
moved_by F m (Refused f) us hs e = refl
moved_by F m (Told f) us hs e = refl
moved_by F m (Stopped n p) us hs e = refl

left_by : {X : Type 0} (x : X) (a : Answer) → Untouched x x a
left_by x (Done v) = tt
left_by x (Refused f) = refl
left_by x (Told f) = refl
left_by x (Stopped n p) = refl

tally_left_by : (t t' : Tally) (a : Answer) → Left t t' a → Untouched t t' a
tally_left_by t t' (Done v) e = tt
tally_left_by t t' (Refused f) e = e
tally_left_by t t' (Told f) e = e
tally_left_by t t' (Stopped n p) e = e

module _ {A P : Type 0} {gA : AllocatorMembers A} {gP : PolicyMembers P} where
  pub worst_is : (l : Ledger A P gA gP) → l.tally.worst ≡ gP.worst l.policy
  worst_is l = ∥∥₁_elim l.sound (ℕ_set _ _) (λ s. s.worst_is)

  pub size_is : (l : Ledger A P gA gP) → l.tally.size ≡ size_of l.marks
  size_is l = ∥∥₁_elim l.sound (ℕ_set _ _) (λ s. s.size_is)

  pub sane : (l : Ledger A P gA gP) → Sane (figures l)
  sane l = record { some = l.tally.sized.0; few = l.tally.sized.1; kept_back = l.tally.sized.2; bounded = gP.bounded l.policy }

  -- the figures with the worst cost that the tally knows
  pub figures_tally : (l : Ledger A P gA gP) → figures_of (gP.cost l.policy) l.tally ≡ figures l
  figures_tally l =
      ap (λ (w : ℕ). record { size = l.tally.size; slop = l.tally.slop; cost = gP.cost l.policy; worst = w }) (worst_is l)

  pub fair : (l : Ledger A P gA gP) → Fair (figures l) (book_of l) (holders_of l) (units_of l)
  fair l =
      record {
        shaped = subst (λ (F : Figures). Shaped F (book_of l)) (figures_tally l) (shaped l.tally (gP.cost l.policy));
        accounted = ∥∥₁_elim l.sound (accounted_once (figures l) (book_of l) (holders_of l) (units_of l)) (λ s. s.fair.accounted);
        summed = ∥∥₁_elim l.sound (summed_once (book_of l) (holders_of l) (units_of l)) (λ s. s.fair.summed);
      }

  -- all but the journal is in the ledger's type
  pub sound_with : (l : Ledger A P gA gP) (j : List Entry) → Stands (figures l) l j → Sound l
  sound_with l j s = record { marks_sound = marks_sound l.marks; worst_is = worst_is l; size_is = size_is l; sane = sane l; fair = fair l; journal = j; stands = s }

  module _ (l : Ledger A P gA gP) (tally : Tally) (marks : Marks A gA) (policy : P) (m : Meaning) (a : Answer) (did : DidTo l tally marks policy m a) where
    figured : figures_in gP tally policy ≡ figures l
    figured =
        let mk : ℕ → ℕ → P → Figures = λ n k p. record { size = n; slop = k; cost = gP.cost p; worst = gP.worst p } in
        ap (λ (n : ℕ). mk n tally.slop policy) did.same.size
        ∙ ap (λ (k : ℕ). mk l.tally.size k policy) did.same.slop
        ∙ ap (λ (p : P). mk l.tally.size l.tally.slop p) did.policy_same

    grown : (j : List Entry) → Standing (figures l) (book_of l) (holders_of l) (units_of l) j →
        Standing (figures l) (book_in tally) (holders_in marks) (gA.units (pool_in marks)) (entry m a (units_of l) (gA.units (pool_in marks)) ∷ j)
    grown j s =
        let F = figures l in
        let us = units_of l in
        let vs = gA.units (pool_in marks) in
        subst (λ (hs : List Holder). Standing F (book_in tally) hs vs (entry m a us vs ∷ j)) (sym did.marked)
        (subst (λ (b : Book). Standing F b (holders_after (book_of l) m a us vs (holders_of l)) vs (entry m a us vs ∷ j)) (sym did.booked)
        (standing-next F (book_of l) (holders_of l) us vs m a j (sane l) did.fits (fair l) s did.answered did.moved))

    fair' : Fair (figures l) (book_in tally) (holders_in marks) (gA.units (pool_in marks))
    fair' =
        let F = figures l in
        let us = units_of l in
        let vs = gA.units (pool_in marks) in
        subst (λ (hs : List Holder). Fair F (book_in tally) hs vs) (sym did.marked)
        (subst (λ (b : Book). Fair F b (holders_after (book_of l) m a us vs (holders_of l)) vs) (sym did.booked)
        (fair-step F (book_of l) (holders_of l) us vs m a (sane l) did.fits (fair l) did.answered did.moved))

    law₀ : (j : List Entry) → Stands (figures l) l j → StandsIn gA gP (figures l) tally marks policy (entry m a (units_of l) (gA.units (pool_in marks)) ∷ j)
    law₀ j s = record { figured = sym figured; standing = grown j s.standing }

    pub law : (F : Figures) (j : List Entry) → Stands F l j → StandsIn gA gP F tally marks policy (entry m a (units_of l) (gA.units (pool_in marks)) ∷ j)
    law F j s =
        subst (λ (G : Figures). Stands G l j → StandsIn gA gP G tally marks policy (entry m a (units_of l) (gA.units (pool_in marks)) ∷ j)) (sym s.figured) (law₀ j) s

    -- a sound ledger stays sound, with its journal
    pub sound' : Sound l → SoundIn gA gP tally marks policy
    sound' s =
        let us = units_of l in
        let vs = gA.units (pool_in marks) in
        record {
          marks_sound = marks_sound marks;
          worst_is = did.same.worst ∙ worst_is l ∙ ap gP.worst (sym did.policy_same);
          size_is = did.same.size ∙ size_is l ∙ sym did.size_same;
          sane = subst Sane (sym figured) (sane l);
          fair = subst (λ (F : Figures). Fair F (book_in tally) (holders_in marks) vs) (sym figured) fair';
          journal = entry m a us vs ∷ s.journal;
          stands = subst (λ (F : Figures). StandsIn gA gP F tally marks policy (entry m a us vs ∷ s.journal)) (sym figured) (law₀ s.journal s.stands);
        }

    -- the parts are those of a ledger
    pub kept : ∥ SoundIn gA gP tally marks policy ∥₁
    kept = ∥∥₁_elim l.sound ∥∥₁_prop (λ s. ∣ sound' s ∣₁)

  -- a ledger with the same parts is the same
  unchanged : (l l' : Ledger A P gA gP) → l'.tally ≡ l.tally → l'.marks ≡ l.marks → l'.policy ≡ l.policy → l' ≡ l
  unchanged l l' t m p = λ i. record {
    tally = t i;
    marks = m i;
    policy = p i;
    sound = is_prop→PathP (λ j. ∥ SoundIn gA gP (t j) (m j) (p j) ∥₁) (λ j. ∥∥₁_prop) l'.sound l.sound i;
  }

  pub untouched_by : (l l' : Ledger A P gA gP) (a : Answer) → Untouched l.tally l'.tally a → Untouched l.marks l'.marks a → l'.policy ≡ l.policy → Untouched l l' a
  untouched_by l l' (Done v) t m p = tt
  untouched_by l l' (Refused f) t m p = unchanged l l' t m p
  untouched_by l l' (Told f) t m p = unchanged l l' t m p
  untouched_by l l' (Stopped n q) t m p = unchanged l l' t m p

  -- an order that moves no unit
  pub plain : (l : Ledger A P gA gP) (t : Tally) (m : Meaning) (a : Answer) → Fits m → TallyDid l.tally t m a →
      mark (book_of l) m (units_of l) (units_of l) (holders_of l) ≡ holders_of l → Moves (figures l) m (holders_of l) (units_of l) (units_of l) →
      PoolKept m (pool_of l) (pool_of l) → DidTo l t l.marks l.policy m a
  plain l t m a fits d still moves kept =
      record {
        fits = fits;
        policy_same = refl;
        same = d.same;
        size_same = refl;
        answered = d.answered (gP.cost l.policy) ∙ ap (λ (F : Figures). answer F (book_of l) m) (figures_tally l);
        booked = d.booked (gP.cost l.policy) ∙ ap (λ (F : Figures). book_after F (book_of l) m a) (figures_tally l);
        marked = marked_by (book_of l) m a (units_of l) (holders_of l) still;
        moved = moved_by (figures l) m a (units_of l) (holders_of l) moves;
        tally_left = tally_left_by l.tally t a d.left;
        marks_left = left_by l.marks a;
        pool_kept = kept;
        lent = refl;
      }

  pub plain_kept : (l : Ledger A P gA gP) (t : Tally) (m : Meaning) (a : Answer) → Fits m → TallyDid l.tally t m a →
      mark (book_of l) m (units_of l) (units_of l) (holders_of l) ≡ holders_of l → Moves (figures l) m (holders_of l) (units_of l) (units_of l) →
      PoolKept m (pool_of l) (pool_of l) → ∥ SoundIn gA gP t l.marks l.policy ∥₁
  plain_kept l t m a fits d still moves pool = kept l t l.marks l.policy m a (plain l t m a fits d still moves pool)

-- a new ledger
module _ {A P : Type 0} (gA : AllocatorMembers A) (gP : PolicyMembers P) (size slop : ℕ) (tally : Tally) (marks : Marks A gA) (policy : P) (some : 1 ≤ size) (few : size ≤ 4096) (below : slop < size)
    (new : Fresh size slop (gP.worst policy) tally) (nobody : holders_in marks ≡ replicate size Nobody)
    (all_in : gA.units (pool_in marks) ≡ replicate size false) where
  abbrev plan : Figures
  plan = record { size = size; slop = slop; cost = gP.cost policy; worst = gP.worst policy }

  planned : figures_in gP tally policy ≡ plan
  planned =
      let mk : ℕ → ℕ → Figures = λ n k. record { size = n; slop = k; cost = gP.cost policy; worst = gP.worst policy } in
      ap (λ (n : ℕ). mk n tally.slop) new.size_is ∙ ap (mk size) new.slop_is

  sane-plan : Sane plan
  sane-plan = record { some = some; few = few; kept_back = below; bounded = gP.bounded policy }

  pub new-stands : StandsIn gA gP (figures_in gP tally policy) tally marks policy []
  new-stands =
      record {
        figured = refl;
        standing =
            subst (λ (F : Figures). Standing F (book_in tally) (holders_in marks) (gA.units (pool_in marks)) []) (sym planned)
            (subst (λ (b : Book). Standing plan b (holders_in marks) (gA.units (pool_in marks)) []) (sym new.book_is)
            (subst (λ (hs : List Holder). Standing plan fresh hs (gA.units (pool_in marks)) []) (sym nobody)
            (subst (λ (us : List Bool). Standing plan fresh (replicate size Nobody) us []) (sym all_in) (standing-fresh plan sane-plan))));
      }

  pub new-sound : SoundIn gA gP tally marks policy
  new-sound = record {
    marks_sound = marks_sound marks;
    worst_is = new.worst_is;
    size_is = new.size_is ∙ sym (length-replicate size false) ∙ sym (ap length all_in) ∙ marks.sized;
    sane = subst Sane (sym planned) sane-plan;
    fair =
        subst (λ (F : Figures). Fair F (book_in tally) (holders_in marks) (gA.units (pool_in marks))) (sym planned)
        (subst (λ (b : Book). Fair plan b (holders_in marks) (gA.units (pool_in marks))) (sym new.book_is)
        (subst (λ (hs : List Holder). Fair plan fresh hs (gA.units (pool_in marks))) (sym nobody)
        (subst (λ (us : List Bool). Fair plan fresh (replicate size Nobody) us) (sym all_in) (fair-fresh plan sane-plan))));
    journal = [];
    stands = new-stands;
  }
