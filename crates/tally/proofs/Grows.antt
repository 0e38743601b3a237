-- New datasets.
use Rattle.std.proofs.Common.{◌≡◌, ℕ, ◌<◌, Bool, true, false, cond, ◌&&◌, ltb, List, [], ◌∷◌, ◌++◌, length, set, None, Ok, Err, Result, sym, refl, ap, ◌∙◌, arith}
use Rattle.std.proofs.lemmas.List.{length-set}
use Rattle.orders.specs.declared.answer.Answer.{Answer}
use Rattle.orders.specs.declared.answer.Answer.TheVariants.{Done, Refused}
use Rattle.orders.specs.Meaning.{folder, volume}
use Rattle.charges.specs.declared.Row.{Row}
use Rattle.rules.specs.declared.state.Kind.{Kind}
use Rattle.rules.specs.declared.state.Kind.TheVariants.{Folder, Volume}
use Rattle.rules.specs.declared.state.Contents.{Contents}
use Rattle.rules.specs.Book.{Dataset, new, empty, made, is_folder_kind, rows}
use Rattle.rules.specs.Answers.{refused_by_tree, records_fit, to_make, answer}
use Rattle.rules.specs.Effects.{with_new, next}
use Rattle.rules.specs.Invariant.{Shaped}
use Rattle.rules.proofs.Rows.{held_by, held-empty, rows_new}
use Rattle.rules.proofs.Accepted.{folder_ok, volume_ok}
use Rattle.rules.proofs.Shapes.{shaped-folder, shaped-volume}
use Rattle.tree.specs.declared.Tree.{Tree}
use Rattle.tree.specs.declared.fault.TreeFault.{TreeFault}
use Rattle.tree.specs.declared.fault.TreeFault.TheVariants.{Missing, Full, RecordCount}
use Rattle.tree.specs.Parts.{rows_of, kinds_of, Becomes}
use Rattle.tree.specs.Answers.{if_folder, kind_in, child, folder_answer, volume_answer}
use Rattle.tree.proofs.Fine.{kind-count}
use Rattle.tally.specs.declared.Tally.{Tally}
use Rattle.tally.specs.declared.fault.LedgerFault.TheVariants.{InTree}
use Rattle.tally.specs.Faults.{refusal_of}
use Rattle.tally.specs.Joined.{datasets_in, book_in}
use Rattle.tally.specs.Parts.{book_of, figures_of, Did}
use Rattle.tally.specs.Sound.{Sound}
use Rattle.tally.specs.Steps.{lifted}
use Rattle.tally.proofs.Asks.{and_then}
use Rattle.tally.proofs.Checks.{kind-asked}
use Rattle.tally.proofs.Joins.{datasets_push}
use Rattle.tally.proofs.Sounds.{sound, made-is, rows_are, shaped, still-sound, tree_done, tree_refused}

-- the checks of a new dataset: its parent a folder, room for it, and what follows
make_by : (q : Bool) (k : Kind) (r : Bool) (p : ℕ) (others : Answer) (then : Result ℕ TreeFault) → others ≡ and_then (lifted None then) Done →
    cond (q && is_folder_kind k) (cond r others (refused_by_tree 13 0 64)) (refused_by_tree 12 p 0)
    ≡ and_then (lifted None (cond q (if_folder k p (cond r then (Err Full))) (Err (Missing p)))) Done
make_by true Folder true p others then e = e
make_by true Folder false p others then e = refl
make_by true Volume r p others then e = refl
make_by false k r p others then e = refl

module _ (t : Tally) (p : ℕ) where
  make-checked : (others : Answer) (then : Result ℕ TreeFault) → others ≡ and_then (lifted None then) Done →
      to_make (book_of t) p others
      ≡ and_then
      (lifted None
      (cond (ltb p (length (rows_of t.tree))) (if_folder (kind_in (kinds_of t.tree) p) p (cond (ltb (length (rows_of t.tree)) 64) then (Err Full)))
      (Err (Missing p))))
      Done
  make-checked others then e =
      ap (λ (q : Bool). cond q (cond (ltb (made (book_of t)) 64) others (refused_by_tree 13 0 64)) (refused_by_tree 12 p 0))
      (kind-asked t.tree t.contents t.transactions is_folder_kind p)
      ∙ ap
      (λ (n : ℕ).
      cond (ltb p (length (rows_of t.tree)) && is_folder_kind (kind_in (kinds_of t.tree) p)) (cond (ltb n 64) others (refused_by_tree 13 0 64))
      (refused_by_tree 12 p 0))
      (made-is t.tree t.contents t.transactions)
      ∙ make_by (ltb p (length (rows_of t.tree))) (kind_in (kinds_of t.tree) p) (ltb (length (rows_of t.tree)) 64) p others then e

  -- a dataset with nothing in it, put at the end
  module _ (kind : Kind) (c : Contents) (tree' : Tree) (be : Becomes t.tree tree' (rows_of t.tree ++ child p ∷ []) (kinds_of t.tree ++ kind ∷ []))
      (few : length (rows_of t.tree) < 64) where
    added-book : book_in tree' (set t.contents (length (rows_of t.tree)) c) t.transactions ≡ with_new (book_of t) (new p kind c)
    added-book =
        ap (λ (ds : List Dataset). record { datasets = ds; transactions = t.transactions })
        (ap (λ (rs : List Row). datasets_in rs (kinds_of tree') (set t.contents (length (rows_of t.tree)) c)) be.rows_are
        ∙ ap (λ (ks : List Kind). datasets_in (rows_of t.tree ++ child p ∷ []) ks (set t.contents (length (rows_of t.tree)) c)) be.kinds_are
        ∙ datasets_push (rows_of t.tree) (kinds_of t.tree) t.contents p kind c (kind-count t.tree) (omega (arith, (sound t).contents_long)))

    -- where its number and what it holds are known by other names
    module _ (d : ℕ) (last : d ≡ length (rows_of t.tree)) (x : Contents) (is : x ≡ c) where
      grown-book : book_in tree' (set t.contents d x) t.transactions ≡ with_new (book_of t) (new p kind c)
      grown-book =
          ap (λ (y : Contents). book_in tree' (set t.contents d y) t.transactions) is
          ∙ ap (λ (n : ℕ). book_in tree' (set t.contents n c) t.transactions) last ∙ added-book

      grown-rows : held_by c ≡ 0 → (cost : ℕ → ℕ) → rows_of tree' ≡ rows (figures_of cost t) (with_new (book_of t) (new p kind c))
      grown-rows nothing cost =
          be.rows_are ∙ ap (λ (rs : List Row). rs ++ child p ∷ []) (rows_are t cost)
          ∙ sym (rows_new (figures_of cost t) (book_of t) (new p kind c) (shaped t cost) nothing)

      grown-sound : held_by c ≡ 0 → ((cost : ℕ → ℕ) → Shaped (figures_of cost t) (with_new (book_of t) (new p kind c))) →
          ∥ Sound t.size t.slop t.worst tree' (set t.contents d x) t.transactions ∥₁
      grown-sound nothing good =
          still-sound t tree' (set t.contents d x) t.transactions (λ cost. with_new (book_of t) (new p kind c))
          be.same_room (length-set t.contents d x ∙ (sound t).contents_long) (λ cost. grown-book) (grown-rows nothing) good

module _ (t : Tally) (p : ℕ) (name : List ℕ) where
  folder-checked : (cost : ℕ → ℕ) →
      answer (figures_of cost t) (book_of t) (folder p name) ≡ and_then (lifted None (folder_answer (rows_of t.tree) (kinds_of t.tree) p)) Done
  folder-checked cost =
      make-checked t p (Done (made (book_of t))) (Ok (length (rows_of t.tree))) (ap Done (made-is t.tree t.contents t.transactions))

  pub folder-refused : (t' : Tally) (f : TreeFault) → folder_answer (rows_of t.tree) (kinds_of t.tree) p ≡ Err f → t' ≡ t →
      Did t t' (folder p name) (Refused (refusal_of (InTree f None)))
  folder-refused = tree_refused t (folder p name) (folder_answer (rows_of t.tree) (kinds_of t.tree) p) folder-checked

  module _ (d : ℕ) (e : folder_answer (rows_of t.tree) (kinds_of t.tree) p ≡ Ok d) where
    pub folder-done : (cost : ℕ → ℕ) → answer (figures_of cost t) (book_of t) (folder p name) ≡ Done d
    folder-done = tree_done t (folder p name) (folder_answer (rows_of t.tree) (kinds_of t.tree) p) folder-checked d e

    folder_number : d ≡ length (rows_of t.tree)
    folder_number = (folder_ok (figures_of (λ s. 0) t) (book_of t) d p name (folder-done (λ s. 0))).3 ∙ made-is t.tree t.contents t.transactions

    folder-fits : length (rows_of t.tree) < 64
    folder-fits =
        omega (arith, (folder_ok (figures_of (λ s. 0) t) (book_of t) d p name (folder-done (λ s. 0))).2, made-is t.tree t.contents t.transactions)

    module _ (tree' : Tree) (be : Becomes t.tree tree' (rows_of t.tree ++ child p ∷ []) (kinds_of t.tree ++ Folder ∷ []))
        (x : Contents) (is : x ≡ empty name 0) where
      pub folder-book : (cost : ℕ → ℕ) → book_in tree' (set t.contents d x) t.transactions ≡ next (figures_of cost t) (book_of t) (folder p name)
      folder-book cost = grown-book t p Folder (empty name 0) tree' be folder-fits d folder_number x is

      pub folder-sound : length name ≡ 8 → ∥ Sound t.size t.slop t.worst tree' (set t.contents d x) t.transactions ∥₁
      folder-sound long =
          grown-sound t p Folder (empty name 0) tree' be folder-fits d folder_number x is (held-empty name 0)
          (λ cost. shaped-folder (figures_of cost t) (book_of t) (shaped t cost) p name d long (folder-done cost))

records_by : (r : Bool) (n k : ℕ) → cond r (Done k) (refused_by_tree 14 n 0) ≡ and_then (lifted None (cond r (Ok k) (Err (RecordCount n)))) Done
records_by true n k = refl
records_by false n k = refl

module _ (t : Tally) (p records : ℕ) (name : List ℕ) where
  volume-checked : (cost : ℕ → ℕ) →
      answer (figures_of cost t) (book_of t) (volume p records name) ≡ and_then (lifted None (volume_answer (rows_of t.tree) (kinds_of t.tree) p records)) Done
  volume-checked cost =
      make-checked t p (cond (records_fit records) (Done (made (book_of t))) (refused_by_tree 14 records 0))
      (cond (records_fit records) (Ok (length (rows_of t.tree))) (Err (RecordCount records)))
      (ap (λ (n : ℕ). cond (records_fit records) (Done n) (refused_by_tree 14 records 0)) (made-is t.tree t.contents t.transactions)
      ∙ records_by (records_fit records) records (length (rows_of t.tree)))

  pub volume-refused : (t' : Tally) (f : TreeFault) → volume_answer (rows_of t.tree) (kinds_of t.tree) p records ≡ Err f → t' ≡ t →
      Did t t' (volume p records name) (Refused (refusal_of (InTree f None)))
  volume-refused = tree_refused t (volume p records name) (volume_answer (rows_of t.tree) (kinds_of t.tree) p records) volume-checked

  module _ (d : ℕ) (e : volume_answer (rows_of t.tree) (kinds_of t.tree) p records ≡ Ok d) where
    pub volume-done : (cost : ℕ → ℕ) → answer (figures_of cost t) (book_of t) (volume p records name) ≡ Done d
    volume-done = tree_done t (volume p records name) (volume_answer (rows_of t.tree) (kinds_of t.tree) p records) volume-checked d e

    volume_number : d ≡ length (rows_of t.tree)
    volume_number = (volume_ok (figures_of (λ s. 0) t) (book_of t) d p records name (volume-done (λ s. 0))).5 ∙ made-is t.tree t.contents t.transactions

    volume-fits : length (rows_of t.tree) < 64
    volume-fits =
        omega (arith, (volume_ok (figures_of (λ s. 0) t) (book_of t) d p records name (volume-done (λ s. 0))).2, made-is t.tree t.contents t.transactions)

    module _ (tree' : Tree) (be : Becomes t.tree tree' (rows_of t.tree ++ child p ∷ []) (kinds_of t.tree ++ Volume ∷ []))
        (x : Contents) (is : x ≡ empty name records) where
      pub volume-book : (cost : ℕ → ℕ) → book_in tree' (set t.contents d x) t.transactions ≡ next (figures_of cost t) (book_of t) (volume p records name)
      volume-book cost = grown-book t p Volume (empty name records) tree' be volume-fits d volume_number x is

      pub volume-sound : length name ≡ 8 → ∥ Sound t.size t.slop t.worst tree' (set t.contents d x) t.transactions ∥₁
      volume-sound long =
          grown-sound t p Volume (empty name records) tree' be volume-fits d volume_number x is (held-empty name records)
          (λ cost. shaped-volume (figures_of cost t) (book_of t) (shaped t cost) p records name d long (volume-done cost))
