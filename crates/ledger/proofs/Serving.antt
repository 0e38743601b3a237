-- Orders obeyed one after the other.
use Rattle.std.proofs.Common.{◌≡◌, ℕ, suc, ◌+◌, ◌<◌, ◌≤◌, Bool, true, false, cond, leb, List, [], ◌∷◌, ◌++◌, map, length, get_or, take, drop, set, Ok, Err, Result, sym, refl, ap, ◌∙◌, subst, append_assoc, arith}
use Rattle.std.proofs.lemmas.List.{take_more, drop_more, set_at, map-append, length-map, length-take-le, append-nil}
use Rattle.std.proofs.lemmas.Bool.{leb-true}
use Rattle.pool.specs.declared.allocator.Allocator.{Ghosts as AllocatorMembers}
use Rattle.costs.specs.declared.policy.CostPolicy.{Ghosts as PolicyMembers}
use Rattle.orders.specs.declared.answer.Answer.{Answer}
use Rattle.orders.specs.declared.answer.Answer.TheVariants.{Done, Refused, Told, Stopped}
use Rattle.orders.specs.declared.order.Order.{Order}
use Rattle.orders.specs.Meaning.{Meaning, meaning}
use Rattle.rules.specs.Figures.{Figures}
use Rattle.rules.specs.Book.{Book, fresh}
use Rattle.rules.specs.Answers.{answer}
use Rattle.rules.specs.Journal.{Entry, book_after}
use Rattle.rules.specs.Standing.{entry}
use Rattle.rules.specs.Served.{Exchange, exchange, served, book_then, answers_of, exchanges}
use Rattle.ledger.specs.declared.Ledger.{Ledger}
use Rattle.ledger.specs.Parts.{book_of, units_of, lent_of, figures, Stands, Sound, Untouched}
use Rattle.ledger.specs.declared.fault.MakeFault.{MakeFault}
use Rattle.ledger.specs.declared.fault.ServeFault.{ServeFault}
use Rattle.ledger.specs.declared.fault.ServeFault.TheVariants.{FewPlaces}
use Rattle.ledger.specs.Makes.{Made}
use Rattle.ledger.proofs.Laws.{sound_with}
use Rattle.ledger.specs.Serves.{Changeless, AllChangeless, Through, AllServed, planned, made_or}

pub then_push : (F : Figures) (b : Book) (xs : List Exchange) (x : Exchange) → book_then F b (xs ++ x ∷ []) ≡ book_after F (book_then F b xs) x.order x.answer
then_push F b [] x = refl
then_push F b (y ∷ ys) x = then_push F (book_after F b y.order y.answer) ys x

served_push : (F : Figures) (b : Book) (ms : List Meaning) (m : Meaning) →
    served F b (ms ++ m ∷ []) ≡ served F b ms ++ exchange m (answer F (book_then F b (served F b ms)) m) ∷ []
served_push F b [] m = refl
served_push F b (k ∷ ms) m = ap (λ (xs : List Exchange). exchange k (answer F b k) ∷ xs) (served_push F (book_after F b k (answer F b k)) ms m)

answers_push : (xs : List Exchange) (x : Exchange) → answers_of (xs ++ x ∷ []) ≡ answers_of xs ++ x.answer ∷ []
answers_push [] x = refl
answers_push (y ∷ ys) x = ap (λ (zs : List Answer). y.answer ∷ zs) (answers_push ys x)

length-answers : (F : Figures) (b : Book) (ms : List Meaning) → length (answers_of (served F b ms)) ≡ length ms
length-answers F b [] = refl
length-answers F b (m ∷ ms) = ap suc (length-answers F (book_after F b m (answer F b m)) ms)

pub front : (xs : List Exchange) (x : Exchange) → AllChangeless (xs ++ x ∷ []) → AllChangeless xs
front [] x h = tt
front (y ∷ ys) x h = (h.0, front ys x h.1)

pub last : (xs : List Exchange) (x : Exchange) → AllChangeless (xs ++ x ∷ []) → Changeless x.answer
last [] x h = h.0
last (y ∷ ys) x h = last ys x h.1

module _ {A P : Type 0} {gA : AllocatorMembers A} {gP : PolicyMembers P} where
  still : (l l' : Ledger A P gA gP) (a : Answer) → Changeless a → Untouched l l' a → l' ≡ l
  still l l' (Done v) h e = absurd h
  still l l' (Refused f) h e = e
  still l l' (Told f) h e = e
  still l l' (Stopped n p) h e = e

  pub through-none : (l : Ledger A P gA gP) → Through l l []
  through-none l = record { figured = refl; booked = refl; law = λ F j s. ([], (s, refl)); untouched = λ _. refl; lent = refl }

  pub through-more : (l₀ l l' : Ledger A P gA gP) (xs : List Exchange) (m : Meaning) (a : Answer) → Through l₀ l xs →
      ((F : Figures) (j : List Entry) → Stands F l j → Stands F l' (entry m a (units_of l) (units_of l') ∷ j)) →
      book_of l' ≡ book_after (figures l) (book_of l) m a → figures l' ≡ figures l → Untouched l l' a → lent_of l' ≡ lent_of l →
      Through l₀ l' (xs ++ exchange m a ∷ [])
  through-more l₀ l l' xs m a t law booked figured untouched lent =
      record {
        figured = figured ∙ t.figured;
        booked =
            booked ∙ ap (λ (F : Figures). book_after F (book_of l) m a) t.figured ∙ ap (λ (b : Book). book_after (figures l₀) b m a) t.booked
            ∙ sym (then_push (figures l₀) (book_of l₀) xs (exchange m a));
        law = λ F j s.
            let was = t.law F j s in
            let e : Entry = entry m a (units_of l) (units_of l') in
            (e ∷ was.0, (law F (was.0 ++ j) was.1.0, ap (λ (ys : List Exchange). ys ++ exchange m a ∷ []) was.1.1));
        untouched = λ h. still l l' a (last xs (exchange m a) h) untouched ∙ t.untouched (front xs (exchange m a) h);
        lent = lent ∙ t.lent;
      }

  -- a sound ledger stays sound, with its journal
  pub through-sound : (l₀ l : Ledger A P gA gP) (xs : List Exchange) → Through l₀ l xs → Sound l₀ → Sound l
  through-sound l₀ l xs t s =
      let grown = t.law (figures l₀) s.journal s.stands in
      sound_with l (grown.0 ++ s.journal) (subst (λ (G : Figures). Stands G l (grown.0 ++ s.journal)) (sym t.figured) grown.1.0)

  -- i of the orders os are obeyed
  pub record Sofar (l₀ l : Ledger A P gA gP) (os : List Order) (places after : List Answer) (i : ℕ) : Type 0 where
    pub through : Through l₀ l (served (figures l₀) (book_of l₀) (map meaning (take i os)))
    pub answered : after ≡ answers_of (served (figures l₀) (book_of l₀) (map meaning (take i os))) ++ drop i places

  pub sofar_none : (l : Ledger A P gA gP) (os : List Order) (places : List Answer) → Sofar l l os places places 0
  sofar_none l os places = record { through = through-none l; answered = refl }

  pub sofar_more : (l₀ l l' : Ledger A P gA gP) (os : List Order) (places after after' : List Answer) (i : ℕ) (d o : Order) (a : Answer) → o ≡ get_or os i d → i < length os → length os ≤ length places →
      Sofar l₀ l os places after i →
      ((F : Figures) (j : List Entry) → Stands F l j → Stands F l' (entry (meaning o) a (units_of l) (units_of l') ∷ j)) →
      a ≡ answer (figures l) (book_of l) (meaning o) →
      book_of l' ≡ book_after (figures l) (book_of l) (meaning o) a → figures l' ≡ figures l → Untouched l l' a → lent_of l' ≡ lent_of l →
      after' ≡ set after i a → Sofar l₀ l' os places after' (i + 1)
  sofar_more l₀ l l' os places after after' i d o a is below room s law answered booked figured untouched lent put =
      let F = figures l₀ in
      let b = book_of l₀ in
      let ms = map meaning (take i os) in
      let xs = served F b ms in
      let m = meaning o in
      let x = exchange m a in
      let one_more : take (i + 1) os ≡ take i os ++ o ∷ [] = take_more os i d below ∙ ap (λ (y : Order). take i os ++ y ∷ []) (sym is) in
      let meant : map meaning (take (i + 1) os) ≡ ms ++ m ∷ [] = ap (map meaning) one_more ∙ map-append meaning (take i os) (o ∷ []) in
      let ruled : a ≡ answer F (book_then F b xs) m = answered ∙ ap (λ (G : Figures). answer G (book_of l) m) s.through.figured ∙ ap (λ (c : Book). answer F c m) s.through.booked in
      let whole : served F b (map meaning (take (i + 1) os)) ≡ xs ++ x ∷ [] =
      ap (served F b) meant ∙ served_push F b ms m ∙ ap (λ (c : Answer). xs ++ exchange m c ∷ []) (sym ruled) in
      let long : length (answers_of xs) ≡ i = length-answers F b ms ∙ length-map (take i os) meaning ∙ length-take-le i os (omega arith) in
      let y = get_or places i a in
      let rest = drop (i + 1) places in
      record {
        through = subst (λ (ys : List Exchange). Through l₀ l' ys) (sym whole) (through-more l₀ l l' xs m a s.through law booked figured untouched lent);
        answered =
            put ∙ ap (λ (zs : List Answer). set zs i a) s.answered ∙ ap (λ (zs : List Answer). set (answers_of xs ++ zs) i a) (drop_more places i a (omega arith))
            ∙ set_at (answers_of xs) y rest a i long
            ∙ sym (append_assoc (answers_of xs) (a ∷ []) rest) ∙ ap (λ (zs : List Answer). zs ++ rest) (sym (answers_push xs x))
            ∙ ap (λ (ys : List Exchange). answers_of ys ++ rest) (sym whole);
      }

  pub sofar_all : (l₀ l : Ledger A P gA gP) (os : List Order) (places after : List Answer) (i : ℕ) → i ≡ length os → Sofar l₀ l os places after i → Sofar l₀ l os places after (length os)
  sofar_all l₀ l os places after i e s = subst (λ (n : ℕ). Sofar l₀ l os places after n) e s

  -- the figures of a new ledger
  pub planned-is : (l : Ledger A P gA gP) (pool : A) (policy : P) (slop : ℕ) → Made pool policy slop l → figures l ≡ planned gP (gA.units pool) policy slop
  planned-is l pool policy slop made =
      let mk : ℕ → ℕ → P → Figures = λ n k p. record { size = n; slop = k; cost = gP.cost p; worst = gP.worst p } in
      ap (λ (n : ℕ). mk n l.tally.slop l.policy) made.size_is ∙ ap (λ (k : ℕ). mk (length (gA.units pool)) k l.policy) made.slop_is
      ∙ ap (λ (p : P). mk (length (gA.units pool)) slop p) made.policy_is

  -- a new ledger that served all orders
  pub all-served : (l₁ l : Ledger A P gA gP) (pool : A) (policy : P) (slop : ℕ) (os : List Order) (places after : List Answer) → Made pool policy slop l₁ → Stands (figures l₁) l₁ [] →
      Through l₁ l (served (figures l₁) (book_of l₁) (map meaning os)) →
      after ≡ answers_of (served (figures l₁) (book_of l₁) (map meaning os)) ++ drop (length os) places →
      AllServed (planned gP (gA.units pool) policy slop) (map meaning os) places after l
  all-served l₁ l pool policy slop os places after made stands t answered =
      let F = planned gP (gA.units pool) policy slop in
      let ms = map meaning os in
      let plan : figures l₁ ≡ F = planned-is l₁ pool policy slop made in
      let same : served (figures l₁) (book_of l₁) ms ≡ served F fresh ms =
      ap (λ (G : Figures). served G (book_of l₁) ms) plan ∙ ap (λ (b : Book). served F b ms) made.book_is in
      let began : Stands F l₁ [] = subst (λ (G : Figures). Stands G l₁ []) plan stands in
      let grown = t.law F [] began in
      let now : figures l ≡ F = t.figured ∙ plan in
      record {
        sound = sound_with l (grown.0 ++ []) (subst (λ (G : Figures). Stands G l (grown.0 ++ [])) (sym now) grown.1.0);
        figured = now;
        answered = answered ∙ ap (λ (xs : List Exchange). answers_of xs ++ drop (length os) places) same ∙ ap (λ (n : ℕ). answers_of (served F fresh ms) ++ drop n places) (sym (length-map os meaning));
        booked =
            t.booked ∙ ap (λ (xs : List Exchange). book_then (figures l₁) (book_of l₁) xs) same ∙ ap (λ (G : Figures). book_then G (book_of l₁) (served F fresh ms)) plan
            ∙ ap (λ (b : Book). book_then F b (served F fresh ms)) made.book_is;
        journal = grown.0 ++ [];
        stands = grown.1.0;
        exactly = ap exchanges (append-nil grown.0) ∙ grown.1.1 ∙ same;
      }

-- the parts of a check that passed
pub made_ok : (r : Result (Unit {0}) MakeFault) (others : Result (Unit {0}) ServeFault) → Ok tt ≡ made_or r others → r ≡ Ok tt
made_ok (Ok tt) others e = refl
made_ok (Err f) others e = let z : ◌≡◌ {A = ℕ} 0 1 = cc in absurd (omega arith)

room_ok : (b : Bool) → ◌≡◌ {A = Result (Unit {0}) ServeFault} (Ok tt) (cond b (Ok tt) (Err FewPlaces)) → b ≡ true
room_ok true e = refl
room_ok false e = let z : ◌≡◌ {A = ℕ} 0 1 = cc in absurd (omega arith)

pub places_ok : (r : Result (Unit {0}) MakeFault) (n m : ℕ) → Ok tt ≡ made_or r (cond (leb n m) (Ok tt) (Err FewPlaces)) → n ≤ m
places_ok (Ok tt) n m e = leb-true n m (room_ok (leb n m) e)
places_ok (Err f) n m e = let z : ◌≡◌ {A = ℕ} 0 1 = cc in absurd (omega arith)
