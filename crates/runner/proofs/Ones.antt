-- One order of a run, and exchanges after exchanges.
use Rattle.std.proofs.Common.{◌≡◌, ℕ, ◌≤◌, List, [], ◌∷◌, ◌++◌, length, sym, ap, ◌∙◌, subst, append_assoc, arith}
use Rattle.std.proofs.Props.{props}
use Rattle.std.proofs.lemmas.List.{append-nil, length-append}
use Rattle.std.proofs.Math.Logic.{∥∥₁_elim}
use Rattle.orders.specs.declared.answer.Layer.{Layer}
use Rattle.pool.specs.declared.allocator.Allocator.{Ghosts as AllocatorMembers}
use Rattle.costs.specs.declared.policy.CostPolicy.{Ghosts as PolicyMembers}
use Rattle.orders.specs.declared.answer.Answer.{Answer}
use Rattle.orders.specs.declared.answer.Answer.TheVariants.{Done, Refused, Told, Stopped}
use Rattle.orders.specs.Layout.{answer_bytes, two}
use Rattle.orders.specs.Meaning.{Meaning}
use Rattle.rules.specs.Figures.{Figures}
use Rattle.rules.specs.Book.{Book}
use Rattle.rules.specs.Law.{Own, Proper}
use Rattle.rules.specs.Answers.{answer}
use Rattle.rules.specs.Journal.{Entry, book_after}
use Rattle.rules.specs.Standing.{entry}
use Rattle.rules.specs.Served.{Exchange, exchange, exchanges}
use Rattle.ledger.specs.declared.Ledger.{Ledger}
use Rattle.ledger.specs.Parts.{book_of, units_of, lent_of, figures, Stands, Untouched}
use Rattle.ledger.specs.Serves.{Through}
use Rattle.ledger.proofs.Serving.{then_push, through-none, through-more, front, last}
use Rattle.runner.specs.Steps.{One}

-- the newer exchanges come last
exchanges_append : (k j : List Entry) → exchanges (k ++ j) ≡ exchanges j ++ exchanges k
exchanges_append [] j = sym (append-nil (exchanges j))
exchanges_append (e ∷ k) j =
    ap (λ (xs : List Exchange). xs ++ exchange e.order e.answer ∷ []) (exchanges_append k j)
    ∙ append_assoc (exchanges j) (exchanges k) (exchange e.order e.answer ∷ [])

-- 17 bytes are enough for any answer to an order
pub short : (a : Answer) → Proper a → length (answer_bytes a) ≤ 17
short (Done v) p = omega arith
short (Refused f) p = omega arith
short (Told f) p =
    let e = length-append f.name (two f.charge ++ (two f.record_units ++ (two f.deferred_units ++ two f.unspent_grants))) in
    omega (arith, e, p.0)
short (Stopped n q) p = absurd p

own_once : (layer : Layer) (n : ℕ) → IsProp (Own layer n)
own_once Layer.Script n = hlevel props
own_once Layer.Transactions n = hlevel props
own_once Layer.Tree n = hlevel props
own_once Layer.Allocator n = hlevel props

-- an answer is proper in one way only
proper_once : (a : Answer) → IsProp (Proper a)
proper_once (Done v) = hlevel props
proper_once (Refused f) = let own : IsProp (Own f.layer f.number) = own_once f.layer f.number in hlevel props
proper_once (Told f) = hlevel props
proper_once (Stopped n q) = hlevel props

module _ {A P : Type 0} {gA : AllocatorMembers A} {gP : PolicyMembers P} where
  -- from what the ledger promises of an order; an answer is proper since the journal with it is lawful
  pub one : (l l' : Ledger A P gA gP) (m : Meaning) (a : Answer) →
      ((F : Figures) (j : List Entry) → Stands F l j → Stands F l' (entry m a (units_of l) (units_of l') ∷ j)) →
      a ≡ answer (figures l) (book_of l) m → book_of l' ≡ book_after (figures l) (book_of l) m a → figures l' ≡ figures l → Untouched l l' a → lent_of l' ≡ lent_of l →
      One l l' m a
  one l l' m a law answered booked figured untouched lent =
      record {
        through = through-more l l l' [] m a (through-none l) law booked figured untouched lent;
        answered = answered;
        proper = ∥∥₁_elim l.sound (proper_once a) (λ s. (law (figures l) s.journal s.stands).standing.lawful.1.by_its_own_table);
      }

  -- the order that follows others
  pub after : (l₀ l l' : Ledger A P gA gP) (xs : List Exchange) (m : Meaning) (a : Answer) → Through l₀ l xs → Through l l' (exchange m a ∷ []) → Through l₀ l' (xs ++ exchange m a ∷ [])
  after l₀ l l' xs m a t u =
      let F = figures l₀ in
      record {
        figured = u.figured ∙ t.figured;
        booked =
            u.booked ∙ ap (λ (G : Figures). book_after G (book_of l) m a) t.figured ∙ ap (λ (b : Book). book_after F b m a) t.booked
            ∙ sym (then_push F (book_of l₀) xs (exchange m a));
        law = λ G j s.
            let was = t.law G j s in
            let now = u.law G (was.0 ++ j) was.1.0 in (
              now.0 ++ was.0,
              (
                subst (λ (k : List Entry). Stands G l' k) (sym (append_assoc now.0 was.0 j)) now.1.0,
                exchanges_append now.0 was.0 ∙ ap (λ (ys : List Exchange). ys ++ exchanges now.0) was.1.1 ∙ ap (λ (ys : List Exchange). xs ++ ys) now.1.1,
              ),
            );
        untouched = λ h. u.untouched (last xs (exchange m a) h, tt) ∙ t.untouched (front xs (exchange m a) h);
        lent = u.lent ∙ t.lent;
      }
