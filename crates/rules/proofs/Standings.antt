-- A journal that stands goes on standing with each order that is answered by the rules.
use Rattle.std.proofs.Common.{◌≡◌, Bool, false, List, [], ◌∷◌, replicate, sym, refl, subst}
use Rattle.orders.specs.declared.answer.Answer.{Answer}
use Rattle.orders.specs.Meaning.{Meaning}
use Rattle.rules.specs.declared.state.Holder.{Holder}
use Rattle.rules.specs.declared.state.Holder.TheVariants.{Nobody}
use Rattle.rules.specs.Figures.{Figures, Sane}
use Rattle.rules.specs.Book.{Book, fresh}
use Rattle.rules.specs.Answers.{answer}
use Rattle.rules.specs.Journal.{Entry, replay, out_after, book_after, holders_after}
use Rattle.rules.specs.Law.{LawfulEntry}
use Rattle.rules.specs.Theorems.{Moved, Fits}
use Rattle.rules.specs.Invariant.{Fair}
use Rattle.rules.specs.Standing.{entry, Standing}
use Rattle.rules.proofs.LawfulEntries.{lawful-entry}
use Rattle.rules.proofs.Journals.{fair-fresh, fair-step, lawful_state}

pub standing-fresh : (F : Figures) → Sane F → Standing F fresh (replicate F.size Nobody) (replicate F.size false) []
standing-fresh F sane =
    record { chained = tt; units_now = refl; book_now = refl; holders_now = refl; lawful = lawful_state F _ _ _ (fair-fresh F sane) }

-- where the state is written as the journal's own replay
standing_replayed : (F : Figures) (vs : List Bool) (m : Meaning) (a : Answer) (j : List Entry) → Sane F → Fits m →
    Fair F (replay F j).book (replay F j).holders (out_after F j) → Standing F (replay F j).book (replay F j).holders (out_after F j) j →
    a ≡ answer F (replay F j).book m → Moved F m a (replay F j).holders (out_after F j) vs →
    Standing F (book_after F (replay F j).book m a) (holders_after (replay F j).book m a (out_after F j) vs (replay F j).holders) vs (entry m a (out_after F j) vs ∷ j)
standing_replayed F vs m a j sane fits fair stands answered moved =
    let b = (replay F j).book in
    record {
      chained = (refl, stands.chained);
      units_now = refl;
      book_now = refl;
      holders_now = refl;
      lawful = (
        lawful_state F _ _ _ (fair-step F b (replay F j).holders (out_after F j) vs m a sane fits fair answered moved),
        subst (λ (x : Answer). LawfulEntry F b m x) (sym answered) (lawful-entry F b m sane fits fair.shaped),
        stands.lawful,
      );
    }

-- what is to be shown, at any way of writing the state
abbrev Goes : Figures → List Bool → Meaning → Answer → List Entry → Book → List Holder → List Bool → Type 0
Goes F vs m a j b hs us =
    Fair F b hs us → Standing F b hs us j → a ≡ answer F b m → Moved F m a hs us vs →
    Standing F (book_after F b m a) (holders_after b m a us vs hs) vs (entry m a us vs ∷ j)

pub standing-next : (F : Figures) (b : Book) (hs : List Holder) (us vs : List Bool) (m : Meaning) (a : Answer) (j : List Entry) → Sane F → Fits m →
    Fair F b hs us → Standing F b hs us j → a ≡ answer F b m → Moved F m a hs us vs →
    Standing F (book_after F b m a) (holders_after b m a us vs hs) vs (entry m a us vs ∷ j)
standing-next F b hs us vs m a j sane fits fair stands =
    subst (λ (x : Book). Goes F vs m a j x hs us) stands.book_now
    (subst (λ (x : List Holder). Goes F vs m a j (replay F j).book x us) stands.holders_now
    (subst (λ (x : List Bool). Goes F vs m a j (replay F j).book (replay F j).holders x) stands.units_now
    (standing_replayed F vs m a j sane fits)))
    fair stands
