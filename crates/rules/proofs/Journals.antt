-- The law holds of every journal that is answered by the rules, and an accepted write finds its units.
use Rattle.std.proofs.Common.{◌≡◌, ℕ, Bool, false, ◌⊎◌, List, [], ◌∷◌, replicate, sym, subst, inl, inr}
use Rattle.orders.specs.declared.answer.Answer.{Answer}
use Rattle.orders.specs.declared.answer.Answer.TheVariants.{Done, Refused, Told, Stopped}
use Rattle.orders.specs.Meaning.{Meaning, tell}
use Rattle.rules.specs.declared.state.Holder.{Holder}
use Rattle.rules.specs.declared.state.Holder.TheVariants.{Nobody}
use Rattle.rules.specs.Figures.{Figures, Sane}
use Rattle.rules.specs.Book.{Book, fresh}
use Rattle.rules.specs.Answers.{answer}
use Rattle.rules.specs.Effects.{next}
use Rattle.rules.specs.Marks.{mark}
use Rattle.rules.specs.Journal.{Entry, replay, out_after, book_after, holders_after}
use Rattle.rules.specs.Law.{LawfulState, LawfulEntry}
use Rattle.rules.specs.Theorems.{Moved, Fits, ObeyedEntry, Obeyed, LawHolds, WritesFindUnits}
use Rattle.rules.specs.Invariant.{Fair}
use Rattle.rules.proofs.Shapes.{shaped_fresh, shaped-next}
use Rattle.rules.proofs.Accounts.{accounted-fresh, summed-fresh, accounted-next}
use Rattle.rules.proofs.Finds.{finds}
use Rattle.rules.proofs.Proper.{Plain, plain}
use Rattle.rules.proofs.LawfulEntries.{lawful-entry}

pub fair-fresh : (F : Figures) → Sane F → Fair F fresh (replicate F.size Nobody) (replicate F.size false)
fair-fresh F sane = record { shaped = shaped_fresh F; accounted = accounted-fresh F; summed = summed-fresh F }

-- figures are told by tell alone, which changes nothing
fair_told : (F : Figures) (b : Book) (m : Meaning) (hs : List Holder) (us vs : List Bool) → Plain (answer F b m) ⊎ ((d : ℕ) × (m ≡ tell d)) →
    (Plain (answer F b m) → ⊥) → Fair F b hs vs → Fair F (next F b m) (mark b m us vs hs) vs
fair_told F b m hs us vs (inl p) told fair = absurd (told p)
fair_told F b m hs us vs (inr (d, is)) told fair = subst (λ (x : Meaning). Fair F (next F b x) (mark b x us vs hs) vs) (sym is) fair

pub fair-step : (F : Figures) (b : Book) (hs : List Holder) (us vs : List Bool) (m : Meaning) (a : Answer) → Sane F → Fits m → Fair F b hs us →
    a ≡ answer F b m → Moved F m a hs us vs → Fair F (book_after F b m a) (holders_after b m a us vs hs) vs
fair-step F b hs us vs m (Done k) sane fits fair e moved =
    let kept = accounted-next F b hs us vs m k sane fits fair (sym e) moved in
    record { shaped = shaped-next F b m k sane fits fair.shaped (sym e); accounted = kept.0; summed = kept.1 }
fair-step F b hs us vs m (Refused f) sane fits fair e same = subst (λ (xs : List Bool). Fair F b hs xs) (sym same) fair
fair-step F b hs us vs m (Told f) sane fits fair e same =
    fair_told F b m hs us vs (plain F b sane fair.shaped m fits) (λ p. subst Plain (sym e) p) (subst (λ (xs : List Bool). Fair F b hs xs) (sym same) fair)
fair-step F b hs us vs m (Stopped n p) sane fits fair e same = subst (λ (xs : List Bool). Fair F b hs xs) (sym same) fair

pub fair-replay : (F : Figures) (j : List Entry) → Sane F → Obeyed F j → Fair F (replay F j).book (replay F j).holders (out_after F j)
fair-replay F [] sane obeyed = fair-fresh F sane
fair-replay F (e ∷ older) sane obeyed =
    let o : ObeyedEntry F older e = obeyed.0 in
    fair-step F (replay F older).book (replay F older).holders e.before e.after e.order e.answer sane o.fits
    (subst (λ (us : List Bool). Fair F (replay F older).book (replay F older).holders us) (sym o.chained) (fair-replay F older sane obeyed.1))
    o.answered o.moved

pub lawful_state : (F : Figures) (b : Book) (hs : List Holder) (us : List Bool) → Fair F b hs us → LawfulState F b hs us
lawful_state F b hs us fair = record { within_limits = fair.shaped.within; units_accounted_for = fair.accounted }

pub law_holds : LawHolds
law_holds F [] sane obeyed = lawful_state F _ _ _ (fair-replay F [] sane obeyed)
law_holds F (e ∷ older) sane obeyed =
    let o : ObeyedEntry F older e = obeyed.0 in
    let b = (replay F older).book in (
      lawful_state F _ _ _ (fair-replay F (e ∷ older) sane obeyed),
      subst (λ (a : Answer). LawfulEntry F b e.order a) (sym o.answered)
          (lawful-entry F b e.order sane o.fits (fair-replay F older sane obeyed.1).shaped),
      law_holds F older sane obeyed.1,
    )

pub writes_find_units : WritesFindUnits
writes_find_units F j sane obeyed t r s k e = finds F (replay F j).book (replay F j).holders (out_after F j) t r s k sane (fair-replay F j sane obeyed) e
