-- The figures of a dataset.
use Rattle.std.proofs.Common.{◌≡◌, ℕ, ◌^◌, ◌<◌, ◌≤◌, Bool, true, false, cond, ltb, List, length, take, None, Ok, Err, sum_by, sum, Result, sym, refl, ap, ◌∙◌, subst, arith}
use Rattle.std.proofs.lemmas.List.Sums.{sum_by-take-drop}
use Rattle.std.proofs.lemmas.Bool.{ltb-true, cond-true}
use Rattle.orders.specs.declared.answer.Answer.{Answer}
use Rattle.orders.specs.declared.answer.Answer.TheVariants.{Refused, Told}
use Rattle.orders.specs.Meaning.{tell}
use Rattle.charges.specs.declared.Row.{Row}
use Rattle.charges.specs.Tree.{charge as charge_in}
use Rattle.rules.specs.declared.state.Contents.{Contents}
use Rattle.rules.specs.Book.{dataset, made, charge}
use Rattle.rules.specs.Answers.{refused_by_tree, to_tell, answer}
use Rattle.rules.specs.Invariant.{ShapedContents}
use Rattle.tree.specs.declared.fault.TreeFault.{TreeFault}
use Rattle.tree.specs.declared.fault.TreeFault.TheVariants.{Missing}
use Rattle.tree.specs.Parts.{rows_of}
use Rattle.tree.specs.Answers.{charge_answer}
use Rattle.tally.specs.declared.Tally.{Tally}
use Rattle.tally.specs.declared.fault.LedgerFault.TheVariants.{InTree}
use Rattle.tally.specs.Faults.{refusal_of}
use Rattle.tally.specs.Grants.{grant_by}
use Rattle.tally.specs.Joined.{contents_at}
use Rattle.tally.specs.Parts.{book_of, figures_of, Did}
use Rattle.tally.proofs.Asks.{ok_not_err}
use Rattle.tally.proofs.Bounds.{contents-is, held-few, own-few}
use Rattle.tally.proofs.Costs.{grants_by}
use Rattle.tally.proofs.Cuts.{past-sum}
use Rattle.tally.proofs.Sounds.{made-is, rows_are, shaped, refused_did}

abbrev shown : Contents → ℕ → ℕ → Answer
shown x n g = Told (record { name = x.name; charge = n; record_units = sum x.units; deferred_units = x.deferred; unspent_grants = g })

exists_by : (q : Bool) (d k : ℕ) (f : TreeFault) (a : Answer) → cond q (Ok k) (Err (Missing d)) ≡ Err f →
    cond q a (refused_by_tree 12 d 0) ≡ Refused (refusal_of (InTree f None))
exists_by true d k f a e = ok_not_err k f e
exists_by false d k f a e = ap (λ (g : TreeFault). Refused (refusal_of (InTree g None))) (fault-is (Missing d) f e)
  where
    fault-is : (g h : TreeFault) → ◌≡◌ {A = Result ℕ TreeFault} (Err g) (Err h) → g ≡ h
    fault-is g h e = cc

exists_then : (q : Bool) (d k j : ℕ) → cond q (Ok k) (Err (Missing d)) ≡ Ok j → (q ≡ true) × (j ≡ k)
exists_then true d k j e = (refl, ok_is k j e)
  where
    ok_is : (m n : ℕ) → ◌≡◌ {A = Result ℕ TreeFault} (Ok m) (Ok n) → n ≡ m
    ok_is m n e = cc
exists_then false d k j e = ok_not_err j (Missing d) (sym e)

module _ (t : Tally) (d : ℕ) where
  tell-checked : (cost : ℕ → ℕ) →
      answer (figures_of cost t) (book_of t) (tell d) ≡ cond (ltb d (length (rows_of t.tree))) (to_tell (figures_of cost t) (book_of t) d) (refused_by_tree 12 d 0)
  tell-checked cost =
      ap (λ (n : ℕ). cond (ltb d n) (to_tell (figures_of cost t) (book_of t) d) (refused_by_tree 12 d 0)) (made-is t.tree t.contents t.transactions)

  pub tell-refused : (f : TreeFault) → charge_answer (rows_of t.tree) d ≡ Err f → Did t t (tell d) (Refused (refusal_of (InTree f None)))
  tell-refused f e =
      refused_did t t (tell d) (InTree f None)
      (λ cost. tell-checked cost ∙ exists_by (ltb d (length (rows_of t.tree))) d (charge_in (rows_of t.tree) d) f _ e) refl

  module _ (k : ℕ) (e : charge_answer (rows_of t.tree) d ≡ Ok k) where
    pub told_listed : d < length (rows_of t.tree)
    told_listed = ltb-true d (length (rows_of t.tree)) (exists_then (ltb d (length (rows_of t.tree))) d (charge_in (rows_of t.tree) d) k e).0

    told_shaped : ShapedContents (contents_at t.contents d)
    told_shaped = subst ShapedContents (contents-is t d told_listed) ((shaped t (λ s. 0)).datasets d).contents

    pub told_few : (contents_at t.contents d).records ≤ 64
    told_few = told_shaped.records_few

    -- the records are all that have units
    pub told_records : sum (take (contents_at t.contents d).records (contents_at t.contents d).units) ≡ sum (contents_at t.contents d).units
    told_records =
        let c = contents_at t.contents d in
        omega (arith, sum_by-take-drop (λ (x : ℕ). x) c.units c.records, past-sum c c.records told_shaped (omega arith))

    pub told_units : sum (take (contents_at t.contents d).records (contents_at t.contents d).units) < 2 ^ 16
    told_units = omega (arith, told_records, held-few t d told_listed, t.sized)

    pub told_grants : sum_by (grant_by t.worst d) t.transactions < 2 ^ 16
    told_grants =
        let F = figures_of (λ s. 0) t in
        let lt : d < made (book_of t) = omega (arith, told_listed, made-is t.tree t.contents t.transactions) in
        omega (arith, own-few t (λ s. 0) d lt, grants_by F d t.transactions, t.sized)

    told_is : (cost : ℕ → ℕ) →
        answer (figures_of cost t) (book_of t) (tell d)
        ≡ Told
        (record {
          name = (contents_at t.contents d).name;
          charge = k;
          record_units = sum (contents_at t.contents d).units;
          deferred_units = (contents_at t.contents d).deferred;
          unspent_grants = sum_by (grant_by t.worst d) t.transactions;
        })
    told_is cost =
        let F = figures_of cost t in
        let q = exists_then (ltb d (length (rows_of t.tree))) d (charge_in (rows_of t.tree) d) k e in
        let c : charge F (book_of t) d ≡ k = ap (λ (rs : List Row). charge_in rs d) (sym (rows_are t cost)) ∙ sym q.1 in
        tell-checked cost ∙ cond-true (ltb d (length (rows_of t.tree))) (to_tell F (book_of t) d) (refused_by_tree 12 d 0) q.0
        ∙ ap (shown (dataset (book_of t) d).contents (charge F (book_of t) d)) (sym (grants_by F d t.transactions))
        ∙ ap (λ (n : ℕ). shown (dataset (book_of t) d).contents n (sum_by (grant_by t.worst d) t.transactions)) c
        ∙ ap (λ (x : Contents). shown x k (sum_by (grant_by t.worst d) t.transactions)) (contents-is t d told_listed)

    pub tell_told : (units grants : ℕ) → units ≡ sum (contents_at t.contents d).units → grants ≡ sum_by (grant_by t.worst d) t.transactions →
        Did t t (tell d)
        (Told
        (record {
          name = (contents_at t.contents d).name;
          charge = k;
          record_units = units;
          deferred_units = (contents_at t.contents d).deferred;
          unspent_grants = grants;
        }))
    tell_told units grants is-units is-grants = record {
      answered = λ cost.
          ap (λ (n : ℕ).
          Told
          (record {
            name = (contents_at t.contents d).name;
            charge = k;
            record_units = n;
            deferred_units = (contents_at t.contents d).deferred;
            unspent_grants = grants;
          })) is-units
          ∙ ap (λ (n : ℕ).
          Told
          (record {
            name = (contents_at t.contents d).name;
            charge = k;
            record_units = sum (contents_at t.contents d).units;
            deferred_units = (contents_at t.contents d).deferred;
            unspent_grants = n;
          })) is-grants
          ∙ sym (told_is cost);
      booked = λ cost. refl;
      same = record { size = refl; slop = refl; worst = refl };
      left = refl;
    }
