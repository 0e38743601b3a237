-- The tree's checks against those of the rules.
use Rattle.std.proofs.Common.{◌≡◌, ℕ, Bool, true, false, cond, ◌&&◌, ltb, List, length, Ok, Err, Option, refl, ap, ◌∙◌}
use Rattle.std.proofs.lemmas.Bool.{ltb-true}
use Rattle.orders.specs.declared.answer.Answer.{Answer}
use Rattle.rules.specs.declared.state.Kind.{Kind}
use Rattle.rules.specs.declared.state.Kind.TheVariants.{Folder, Volume}
use Rattle.rules.specs.declared.state.Contents.{Contents}
use Rattle.rules.specs.declared.state.Transaction.{Transaction}
use Rattle.rules.specs.Book.{Dataset, dataset, made, is_volume, is_volume_kind}
use Rattle.rules.specs.Answers.{refused_by_tree}
use Rattle.tree.specs.declared.Tree.{Tree}
use Rattle.tree.specs.declared.fault.TreeFault.TheVariants.{Missing}
use Rattle.tree.specs.Parts.{rows_of, kinds_of}
use Rattle.tree.specs.Answers.{if_volume, kind_in, as_volume}
use Rattle.tally.specs.Joined.{book_in}
use Rattle.tally.specs.Steps.{lifted}
use Rattle.tally.proofs.Asks.{and_then}
use Rattle.tally.proofs.Sounds.{made-is, dataset-is}

module _ (tree : Tree) (contents : List Contents) (transactions : List Transaction) where
  -- a question of a dataset's kind, where there is such a dataset
  pub kind-asked : (test : Kind → Bool) (d : ℕ) →
      (ltb d (made (book_in tree contents transactions)) && test (dataset (book_in tree contents transactions) d).kind)
      ≡ (ltb d (length (rows_of tree)) && test (kind_in (kinds_of tree) d))
  kind-asked test d =
      let b = book_in tree contents transactions in
      ap (λ (n : ℕ). ltb d n && test (dataset b d).kind) (made-is tree contents transactions)
      ∙ asked (ltb d (length (rows_of tree))) (λ l. ap (λ (x : Dataset). test x.kind) (dataset-is tree contents transactions d (ltb-true d (length (rows_of tree)) l)))
    where
      asked : (q : Bool) {x y : Bool} → (q ≡ true → x ≡ y) → (q && x) ≡ (q && y)
      asked true e = e refl
      asked false e = refl

  volume_by : (q : Bool) (k : Kind) (t : Option ℕ) (v : ℕ) (accepted : Answer) →
      cond (q && is_volume_kind k) accepted (refused_by_tree 12 v 0)
      ≡ and_then (lifted t (cond q (if_volume {X = Unit {0}} k v (Ok tt)) (Err (Missing v)))) (λ _. accepted)
  volume_by true Folder t v accepted = refl
  volume_by true Volume t v accepted = refl
  volume_by false k t v accepted = refl

  -- whether there is such a volume
  pub volume_check : (t : Option ℕ) (v : ℕ) (accepted : Answer) →
      cond (is_volume (book_in tree contents transactions) v) accepted (refused_by_tree 12 v 0)
      ≡ and_then (lifted t (as_volume (rows_of tree) (kinds_of tree) v)) (λ _. accepted)
  volume_check t v accepted =
      ap (λ (q : Bool). cond q accepted (refused_by_tree 12 v 0)) (kind-asked is_volume_kind v)
      ∙ volume_by (ltb v (length (rows_of tree))) (kind_in (kinds_of tree) v) t v accepted
