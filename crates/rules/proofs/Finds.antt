-- An accepted write finds its units: all own units are charged to the root, whose charge is within the room.
use Rattle.std.proofs.Common.{◌≡◌, ℕ, ◌+◌, ◌*◌, ◌<◌, ◌≤◌, Bool, eqb, List, [], length, sum_by, refl, ap, ◌∙◌, arith}
use Rattle.std.proofs.lemmas.List.Sums.{get_or-le-sum_by}
use Rattle.std.proofs.lemmas.Bool.{cond-true, eq-eqb}
use Rattle.orders.specs.declared.answer.Answer.TheVariants.{Done}
use Rattle.orders.specs.Meaning.{write}
use Rattle.charges.specs.declared.Row.{Row}
use Rattle.charges.specs.Tree.{blank, row}
use Rattle.charges.proofs.Sums.{sum_to, sum_same, sum_add, sum_list, term_le_sum}
use Rattle.rules.specs.declared.state.Holder.{Holder}
use Rattle.rules.specs.declared.state.Kind.TheVariants.{Folder}
use Rattle.rules.specs.declared.state.Transaction.TheVariants.{Idle, Assigned}
use Rattle.rules.specs.Figures.{Figures, Sane, room}
use Rattle.rules.specs.Book.{Book, transaction, made, record_units, deferred, empty, new, volume_of, writes_of, frees_of, grant_on, unspent_grants, own, rows}
use Rattle.rules.specs.Answers.{answer}
use Rattle.rules.specs.Theorems.{outs}
use Rattle.rules.specs.Invariant.{Shaped, Fair}
use Rattle.rules.proofs.Counts.{sum_of}
use Rattle.rules.proofs.Balanced.{units_of}
use Rattle.rules.proofs.Rows.{rows-length, rows_at, estimate_less}
use Rattle.rules.proofs.Sizes.{bounded, root-within}
use Rattle.rules.proofs.Accepted.{write_ok}

module _ (F : Figures) (b : Book) where
  -- all own units together are within the room
  own-within : Shaped F b → sum_to (made b) (own F b) ≤ room F
  own-within shaped =
      omega (
        arith,
        root-within F b shaped,
        (bounded F b shaped).own_units,
        sum_of (λ r. r.own) (rows F b) blank (made b) (rows-length F b),
        sum_same (made b) (λ d. (row (rows F b) d).own) (own F b) (λ d l. ap (λ (r : Row). r.own) (rows_at F b d l)),
      )

  -- own units are those of records, deferred ones and unspent grants
  own_parts : sum_to (made b) (own F b) ≡ sum_by units_of b.datasets + sum_to (made b) (unspent_grants F b)
  own_parts =
      omega (
        arith,
        sum_add (made b) (λ d. record_units b d + deferred b d) (unspent_grants F b),
        sum_list units_of b.datasets (new 0 Folder (empty [] 0)),
      )

  -- the unspent grant of one transaction
  grant_within : (t : ℕ) → t < length b.transactions → volume_of (transaction b t) < made b →
      transaction b t ≡ Assigned (volume_of (transaction b t)) (writes_of (transaction b t)) (frees_of (transaction b t)) →
      writes_of (transaction b t) * F.worst ≤ sum_to (made b) (unspent_grants F b)
  grant_within t l lv assigned =
      let v = volume_of (transaction b t) in
      let is : grant_on F v (transaction b t) ≡ writes_of (transaction b t) * F.worst =
      ap (grant_on F v) assigned ∙ cond-true (eqb v v) (writes_of (transaction b t) * F.worst) 0 (eq-eqb v v refl) in
      omega (arith, get_or-le-sum_by (grant_on F v) b.transactions t Idle l, term_le_sum (made b) (unspent_grants F b) v lv)

pub finds : (F : Figures) (b : Book) (hs : List Holder) (us : List Bool) (t r s k : ℕ) → Sane F → Fair F b hs us →
    answer F b (write t r s) ≡ Done k → outs us + k ≤ F.size
finds F b hs us t r s k sane fair ok =
    let o = write_ok F b k t r s ok in
    let on = (fair.shaped.transactions t).on_volume (λ idle. let x = o.1 in let z : ◌≡◌ {A = ℕ} 0 1 = cc in omega arith) in
    omega (
      arith,
      own-within F b fair.shaped,
      own_parts F b,
      grant_within F b t (omega (arith, o.0, fair.shaped.transactions_long)) on.0 o.1,
      estimate_less F (writes_of (transaction b t)) o.2,
      sane.bounded.within s o.4,
      o.5,
      fair.summed.all_out,
    )
