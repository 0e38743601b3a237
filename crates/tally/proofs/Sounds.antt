-- What a sound tally's parts say, and that an accepted order leaves it sound.
use Rattle.std.proofs.Common.{◌≡◌, ℕ, ◌-◌, ◌<◌, List, length, None, Ok, Err, Result, sym, ap, ◌∙◌, subst, arith}
use Rattle.std.specs.Result.{IsErrAnd}
use mathlib.Core.HLevel.{is_prop→PathP}
use mathlib.Core.Logic.{∥∥₁_prop}
use Rattle.orders.specs.declared.answer.Answer.{Answer}
use Rattle.orders.specs.declared.answer.Answer.TheVariants.{Done, Refused}
use Rattle.orders.specs.Meaning.{Meaning}
use Rattle.charges.specs.declared.Row.{Row}
use Rattle.charges.specs.Tree.{row}
use Rattle.rules.specs.declared.state.Contents.{Contents}
use Rattle.rules.specs.declared.state.Transaction.{Transaction}
use Rattle.rules.specs.Figures.{Figures}
use Rattle.rules.specs.Book.{Dataset, Book, dataset, made, own, rows}
use Rattle.rules.specs.Answers.{answer}
use Rattle.rules.specs.Effects.{next}
use Rattle.rules.specs.Invariant.{Shaped}
use Rattle.rules.proofs.Rows.{rows_is, row-own}
use Rattle.tree.specs.declared.Tree.{Tree}
use Rattle.tree.specs.Parts.{rows_of, kinds_of, room_of}
use Rattle.tally.specs.declared.Tally.{Tally}
use Rattle.tree.specs.declared.fault.TreeFault.{TreeFault}
use Rattle.tally.specs.declared.fault.LedgerFault.{LedgerFault}
use Rattle.tally.specs.declared.fault.LedgerFault.TheVariants.{InTree}
use Rattle.tally.specs.Faults.{refusal_of}
use Rattle.tally.specs.Joined.{book_in, figures_in, dataset_at}
use Rattle.tally.specs.Sound.{Sized, Sound}
use Rattle.tally.specs.Parts.{book_of, figures_of, Same, Did}
use Rattle.tally.specs.Steps.{lifted}
use Rattle.tally.proofs.Asks.{and_then}
use Rattle.tally.proofs.Once.{sized_once, taken_out}
use Rattle.tally.proofs.Joins.{datasets-length, datasets-at}

pub sound : (t : Tally) → Sound t.size t.slop t.worst t.tree t.contents t.transactions
sound t = taken_out t.size t.slop t.worst t.tree t.contents t.transactions t.sound

module _ (tree : Tree) (contents : List Contents) (transactions : List Transaction) where
  pub made-is : made (book_in tree contents transactions) ≡ length (rows_of tree)
  made-is = datasets-length (rows_of tree) (kinds_of tree) contents

  pub dataset-is : (d : ℕ) → d < length (rows_of tree) → dataset (book_in tree contents transactions) d ≡ dataset_at (rows_of tree) (kinds_of tree) contents d
  dataset-is d l = datasets-at (rows_of tree) (kinds_of tree) contents d l

  -- rows with the own units of the book are the rows of the book
  pub rows_from : (F : Figures) → ((d : ℕ) → d < length (rows_of tree) → (row (rows_of tree) d).own ≡ own F (book_in tree contents transactions) d) →
      rows_of tree ≡ rows F (book_in tree contents transactions)
  rows_from F owns =
      let b = book_in tree contents transactions in
      sym (rows_is F b (rows_of tree) (sym made-is)
      (λ d l.
      let lt : d < length (rows_of tree) = omega (arith, made-is) in
      let at = dataset-is d lt in
      let own_is = owns d lt in
      let parent : (dataset b d).parent ≡ (row (rows_of tree) d).parent = ap (λ (x : Dataset). x.parent) at in
      let quota : (dataset b d).quota ≡ (row (rows_of tree) d).quota = ap (λ (x : Dataset). x.quota) at in
      let reservation : (dataset b d).reservation ≡ (row (rows_of tree) d).reservation = ap (λ (x : Dataset). x.reservation) at in
      row_eq parent quota reservation own_is))
    where
      row_eq : {p p' q q' r r' : ℕ} {o o' : ℕ} → p ≡ p' → q ≡ q' → r ≡ r' → o' ≡ o →
          ◌≡◌ {A = Row} (record { parent = p'; quota = q'; reservation = r'; own = o' }) (record { parent = p; quota = q; reservation = r; own = o })
      row_eq e f g h = cc

pub rows_are : (t : Tally) (cost : ℕ → ℕ) → rows_of t.tree ≡ rows (figures_of cost t) (book_of t)
rows_are t cost = rows_from t.tree t.contents t.transactions (figures_of cost t) ((sound t).own_are cost)

pub shaped : (t : Tally) (cost : ℕ → ℕ) → Shaped (figures_of cost t) (book_of t)
shaped t cost = (sound t).shaped cost

-- parts of a book of which it all holds
pub sound_by : (size slop worst : ℕ) (tree : Tree) (contents : List Contents) (transactions : List Transaction) (b : (ℕ → ℕ) → Book) →
    room_of tree ≡ size - slop → length contents ≡ 64 →
    ((cost : ℕ → ℕ) → book_in tree contents transactions ≡ b cost) →
    ((cost : ℕ → ℕ) → rows_of tree ≡ rows (figures_in size slop worst cost) (b cost)) →
    ((cost : ℕ → ℕ) → Shaped (figures_in size slop worst cost) (b cost)) →
    ∥ Sound size slop worst tree contents transactions ∥₁
sound_by size slop worst tree contents transactions b room long is rows_then shaped-then = ∣ record {
  room_is = room;
  contents_long = long;
  own_are = λ cost d l.
      let F = figures_in size slop worst cost in
      let b' = book_in tree contents transactions in
      let e : rows_of tree ≡ rows F b' = rows_then cost ∙ ap (rows F) (sym (is cost)) in
      let lt : d < made b' = omega (arith, made-is tree contents transactions) in
      ap (λ (rs : List Row). (row rs d).own) e ∙ row-own F b' d lt;
  shaped = λ cost. subst (Shaped (figures_in size slop worst cost)) (sym (is cost)) (shaped-then cost);
} ∣₁

-- other parts of the book, of which the same holds
pub still-sound : (t : Tally) (tree : Tree) (contents : List Contents) (transactions : List Transaction) (b : (ℕ → ℕ) → Book) →
    room_of tree ≡ room_of t.tree → length contents ≡ 64 →
    ((cost : ℕ → ℕ) → book_in tree contents transactions ≡ b cost) →
    ((cost : ℕ → ℕ) → rows_of tree ≡ rows (figures_of cost t) (b cost)) →
    ((cost : ℕ → ℕ) → Shaped (figures_of cost t) (b cost)) →
    ∥ Sound t.size t.slop t.worst tree contents transactions ∥₁
still-sound t tree contents transactions b same_room long is rows_then shaped-then =
    sound_by t.size t.slop t.worst tree contents transactions b (same_room ∙ (sound t).room_is) long is rows_then shaped-then

-- what is to be shown of a call that refuses
pub refused_did : (t t' : Tally) (m : Meaning) (f : LedgerFault) → ((cost : ℕ → ℕ) → answer (figures_of cost t) (book_of t) m ≡ Refused (refusal_of f)) → t' ≡ t →
    Did t t' m (Refused (refusal_of f))
refused_did t t' m f refused same = record {
  answered = λ cost. sym (refused cost);
  booked = λ cost. ap book_of same;
  same = record { size = ap (λ (x : Tally). x.size) same; slop = ap (λ (x : Tally). x.slop) same; worst = ap (λ (x : Tally). x.worst) same };
  left = same;
}

-- an order that is answered as the tree answers it
module _ (t : Tally) (m : Meaning) (r : Result ℕ TreeFault)
    (answered : (cost : ℕ → ℕ) → answer (figures_of cost t) (book_of t) m ≡ and_then (lifted None r) Done) where
  pub tree_done : (k : ℕ) → r ≡ Ok k → (cost : ℕ → ℕ) → answer (figures_of cost t) (book_of t) m ≡ Done k
  tree_done k e cost = answered cost ∙ ap (λ (s : Result ℕ TreeFault). and_then (lifted None s) Done) e

  pub tree_refused : (t' : Tally) (f : TreeFault) → r ≡ Err f → t' ≡ t → Did t t' m (Refused (refusal_of (InTree f None)))
  tree_refused t' f e same =
      refused_did t t' m (InTree f None) (λ cost. answered cost ∙ ap (λ (s : Result ℕ TreeFault). and_then (lifted None s) Done) e) same

-- the same of a fault that is known by another name
pub refused_as : (t t' : Tally) (m : Meaning) (f g : LedgerFault) → f ≡ g → Did t t' m (Refused (refusal_of g)) → Did t t' m (Refused (refusal_of f))
refused_as t t' m f g e did = subst (λ (h : LedgerFault). Did t t' m (Refused (refusal_of h))) (sym e) did

-- a call that refuses by `?`, with the fault that the conversion gives
pub refused_from : {X : Type 0} (shown : Result X LedgerFault → Answer) → ((f : LedgerFault) → shown (Err f) ≡ Refused (refusal_of f)) →
    (t t' : Tally) (m : Meaning) (r : Result X LedgerFault) (g : LedgerFault) → IsErrAnd r (λ f. f ≡ g) → Did t t' m (Refused (refusal_of g)) → Did t t' m (shown r)
refused_from shown is t t' m (Ok x) g e did = absurd e
refused_from shown is t t' m (Err f) g e did =
    subst (λ (a : Answer). Did t t' m a) (ap (λ (h : LedgerFault). Refused (refusal_of h)) (sym e) ∙ sym (is f)) did

-- and of one that accepts
pub done_did : (t t' : Tally) (m : Meaning) (k : ℕ) → ((cost : ℕ → ℕ) → answer (figures_of cost t) (book_of t) m ≡ Done k) →
    ((cost : ℕ → ℕ) → book_of t' ≡ next (figures_of cost t) (book_of t) m) → Same t t' → Did t t' m (Done k)
done_did t t' m k done became same = record { answered = λ cost. sym (done cost); booked = became; same = same; left = tt }

-- a tally whose tree was asked and has not changed is the same
pub unmoved : (t t' : Tally) → t'.size ≡ t.size → t'.slop ≡ t.slop → t'.worst ≡ t.worst → t'.tree ≡ t.tree → t'.contents ≡ t.contents →
    t'.transactions ≡ t.transactions → t' ≡ t
unmoved t t' a b c d e f = λ i. record {
  size = a i;
  slop = b i;
  worst = c i;
  tree = d i;
  contents = e i;
  transactions = f i;
  sized = is_prop→PathP (λ j. Sized (a j) (b j) (c j)) (λ j. sized_once (a j) (b j) (c j)) t'.sized t.sized i;
  sound = is_prop→PathP (λ j. ∥ Sound (a j) (b j) (c j) (d j) (e j) (f j) ∥₁) (λ j. ∥∥₁_prop) t'.sound t.sound i;
}
