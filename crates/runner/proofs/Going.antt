-- How far a run has come: what was exchanged, and what is left to say.
use Rattle.std.proofs.Common.{◌≡◌, ℕ, zero, suc, ◌+◌, ◌<◌, ◌≤◌, cond, ltb, List, [], ◌∷◌, ◌++◌, length, set, Option, Result, Ok, Err, sym, refl, ap, ◌∙◌, append_assoc, arith}
use Rattle.std.proofs.lemmas.List.{length-append, length_push, length-set, append-nil}
use Rattle.std.proofs.lemmas.Bool.{lt-ltb, le-ltb, cond-true, cond-false}
use Rattle.orders.specs.Meaning.{Meaning}
use Rattle.orders.specs.Layout.{answer_bytes, laid}
use Rattle.rules.specs.Figures.{Figures}
use Rattle.rules.specs.Book.{Book}
use Rattle.rules.specs.Answers.{answer}
use Rattle.rules.specs.Journal.{book_after}
use Rattle.rules.specs.Served.{Exchange, exchange, bytes_of}
use Rattle.reader.specs.Decode.{Read, decode, order, fault, finished}
use Rattle.reader.specs.declared.fault.ReadFault.{ReadFault}
use Rattle.runner.specs.declared.ended.Ended.{Ended}
use Rattle.runner.specs.declared.fault.ScriptFault.{ScriptFault}
use Rattle.runner.specs.declared.fault.ScriptFault.TheVariants.{Unreadable, NoRoom}
use Rattle.runner.specs.Runs.{Ran, more, ends, ran_from, exchanges_in, stop_of, ended_with, end_of}

-- exchanges, and then the rest of a run
abbrev then : List Exchange → Ran → Ran
then [] r = r
then (x ∷ xs) r = more x (then xs r)

then_push : (xs : List Exchange) (x : Exchange) (r : Ran) → then (xs ++ x ∷ []) r ≡ then xs (more x r)
then_push [] x r = refl
then_push (y ∷ ys) x r = ap (more y) (then_push ys x r)

then_in : (xs : List Exchange) (z : Result ℕ ScriptFault) → exchanges_in (then xs (ends z)) ≡ xs
then_in [] z = refl
then_in (x ∷ xs) z = ap (λ (ys : List Exchange). x ∷ ys) (then_in xs z)

then-stop : (xs : List Exchange) (z : Result ℕ ScriptFault) → stop_of (then xs (ends z)) ≡ z
then-stop [] z = refl
then-stop (x ∷ xs) z = then-stop xs z

bytes_push : (xs : List Exchange) (x : Exchange) → bytes_of (xs ++ x ∷ []) ≡ bytes_of xs ++ answer_bytes x.answer
bytes_push [] x = append-nil (answer_bytes x.answer)
bytes_push (y ∷ ys) x =
    ap (λ (bs : List ℕ). answer_bytes y.answer ++ bs) (bytes_push ys x) ∙ sym (append_assoc (answer_bytes y.answer) (bytes_of ys) (answer_bytes x.answer))

laid_append : (out : List ℕ) (at : ℕ) (bs cs : List ℕ) → laid out at (bs ++ cs) ≡ laid (laid out at bs) (at + length bs) cs
laid_append out at [] cs = let e : at ≡ at + 0 = omega arith in ap (λ (n : ℕ). laid out n cs) e
laid_append out at (b ∷ bs) cs =
    let e : (at + 1) + length bs ≡ at + suc (length bs) = omega arith in
    laid_append (set out at b) (at + 1) bs cs ∙ ap (λ (n : ℕ). laid (laid (set out at b) (at + 1) bs) n cs) e

length-laid : (out : List ℕ) (at : ℕ) (bs : List ℕ) → length (laid out at bs) ≡ length out
length-laid out at [] = refl
length-laid out at (b ∷ bs) = length-laid (set out at b) (at + 1) bs ∙ length-set out at b

-- after n orders and w answer bytes, at place p with the book b
pub record Going (F : Figures) (s : List ℕ) (b₀ : Book) (out₀ : List ℕ) (b : Book) (p n w : ℕ) (out : List ℕ) (xs : List Exchange) : Type 0 where
  pub fuel : ℕ
  pub enough : length s < p + fuel
  pub same : then xs (ran_from fuel F s (length out₀) b p w) ≡ ran_from (length s + 1) F s (length out₀) b₀ 0 0
  pub laid_so : out ≡ laid out₀ 0 (bytes_of xs)
  pub counted : n ≡ length xs
  pub wrote : w ≡ length (bytes_of xs)
  pub few : n ≤ p

pub start : (F : Figures) (s : List ℕ) (b : Book) (out : List ℕ) → Going F s b out b 0 0 0 out []
start F s b out = record { fuel = length s + 1; enough = omega arith; same = refl; laid_so = refl; counted = refl; wrote = refl; few = omega arith }

past : (s : List ℕ) (p : ℕ) → length s ≤ p → decode s p ≡ finished
past s p h = cond-false _ _ _ (le-ltb p (length s) h)

within : (s : List ℕ) (p q : ℕ) (m : Meaning) (o : Option ℕ) → decode s p ≡ order m o q → p < length s
within s p q m o e = grind (arith, past)

within-fault : (s : List ℕ) (p : ℕ) (d : ReadFault) → decode s p ≡ fault d → p < length s
within-fault s p d e = grind (arith, past)

-- one step of the definition
step : Figures → List ℕ → ℕ → Book → ℕ → ℕ → ℕ → Read → Ran
step F s room b p w n r =
    elim r [
      | order m name q ↦
          cond (ltb room (w + 17)) (ends (Err (NoRoom p)))
          (more (exchange m (answer F b m)) (ran_from n F s room (book_after F b m (answer F b m)) q (w + length (answer_bytes (answer F b m)))))
      | fault f ↦ ends (Err (Unreadable f))
      | finished ↦ ends (Ok p)
    ]

module _ (F : Figures) (s : List ℕ) (room : ℕ) (b : Book) (p w : ℕ) where
  at_end : (n : ℕ) → decode s p ≡ finished → ran_from n F s room b p w ≡ ends (Ok p)
  unfolding ran_from step
  at_end zero e = refl
  at_end (suc n) e = ap (step F s room b p w n) e

  at-fault : (n : ℕ) (d : ReadFault) → decode s p ≡ fault d → ran_from (suc n) F s room b p w ≡ ends (Err (Unreadable d))
  unfolding ran_from step
  at-fault n d e = ap (step F s room b p w n) e

  at-order : (n q : ℕ) (m : Meaning) (o : Option ℕ) → decode s p ≡ order m o q →
      ran_from (suc n) F s room b p w
      ≡ cond (ltb room (w + 17)) (ends (Err (NoRoom p)))
      (more (exchange m (answer F b m)) (ran_from n F s room (book_after F b m (answer F b m)) q (w + length (answer_bytes (answer F b m)))))
  unfolding ran_from step
  at-order n q m o e = ap (step F s room b p w n) e

-- what a run that stops has done
pub record Done (F : Figures) (s : List ℕ) (b₀ : Book) (out₀ : List ℕ) (out : List ℕ) (xs : List Exchange) (r : Ended) : Type 0 where
  pub ended_so : r ≡ end_of (ran_from (length s + 1) F s (length out₀) b₀ 0 0)
  pub exchanged_so : xs ≡ exchanges_in (ran_from (length s + 1) F s (length out₀) b₀ 0 0)
  pub laid_so : out ≡ laid out₀ 0 (bytes_of xs)

ended_at : (xs : List Exchange) (z : Result ℕ ScriptFault) (n w : ℕ) → n ≡ length xs → w ≡ length (bytes_of xs) → ended_with z n w ≡ end_of (then xs (ends z))
ended_at xs z n w en ew =
    let a = then_in xs z in
    let b = then-stop xs z in
    let d : length (exchanges_in (then xs (ends z))) ≡ length xs = ap length a in
    let e : length (bytes_of (exchanges_in (then xs (ends z)))) ≡ length (bytes_of xs) = ap (λ (ys : List Exchange). length (bytes_of ys)) a in
    cc

pub long : (F : Figures) (s : List ℕ) (b₀ : Book) (out₀ : List ℕ) (b : Book) (p n w : ℕ) (out : List ℕ) (xs : List Exchange) → Going F s b₀ out₀ b p n w out xs → length out ≡ length out₀
long F s b₀ out₀ b p n w out xs g = ap length g.laid_so ∙ length-laid out₀ 0 (bytes_of xs)

module _ (F : Figures) (s : List ℕ) (b₀ : Book) (out₀ : List ℕ) (b : Book) (p n w : ℕ) (out : List ℕ) (xs : List Exchange) (g : Going F s b₀ out₀ b p n w out xs) where
  stop : (z : Result ℕ ScriptFault) → ran_from g.fuel F s (length out₀) b p w ≡ ends z → Done F s b₀ out₀ out xs (ended_with z n w)
  stop z e =
      let all : then xs (ends z) ≡ ran_from (length s + 1) F s (length out₀) b₀ 0 0 = ap (then xs) (sym e) ∙ g.same in
      record {
        ended_so = ended_at xs z n w g.counted g.wrote ∙ ap end_of all;
        exchanged_so = sym (then_in xs z) ∙ ap exchanges_in all;
        laid_so = g.laid_so;
      }

  pub at_the_end : decode s p ≡ finished → Done F s b₀ out₀ out xs (ended_with (Ok p) n w)
  at_the_end e = stop (Ok p) (at_end F s (length out₀) b p w g.fuel e)

  some-fuel : (f : ℕ) → g.fuel ≡ f → p < length s → (f' : ℕ) × (g.fuel ≡ suc f')
  some-fuel zero e l = absurd (omega (arith, g.enough))
  some-fuel (suc f) e l = (f, e)

  pub at_a_fault : (d : ReadFault) → decode s p ≡ fault d → Done F s b₀ out₀ out xs (ended_with (Err (Unreadable d)) n w)
  at_a_fault d e =
      let f = some-fuel g.fuel refl (within-fault s p d e) in
      stop (Err (Unreadable d)) (ap (λ (x : ℕ). ran_from x F s (length out₀) b p w) f.1 ∙ at-fault F s (length out₀) b p w f.0 d e)

  pub no_room : (q : ℕ) (m : Meaning) (o : Option ℕ) → decode s p ≡ order m o q → length out₀ < w + 17 → Done F s b₀ out₀ out xs (ended_with (Err (NoRoom p)) n w)
  no_room q m o e l =
      let f = some-fuel g.fuel refl (within s p q m o e) in
      stop (Err (NoRoom p))
      (ap (λ (x : ℕ). ran_from x F s (length out₀) b p w) f.1 ∙ at-order F s (length out₀) b p w f.0 q m o e ∙ cond-true _ _ _ (lt-ltb (length out₀) (w + 17) l))

  pub one_more : (q : ℕ) (m : Meaning) (o : Option ℕ) (b' : Book) (w' : ℕ) (out' : List ℕ) → decode s p ≡ order m o q → p < q → w + 17 ≤ length out₀ →
      b' ≡ book_after F b m (answer F b m) → w' ≡ w + length (answer_bytes (answer F b m)) → out' ≡ laid out w (answer_bytes (answer F b m)) →
      Going F s b₀ out₀ b' q (n + 1) w' out' (xs ++ exchange m (answer F b m) ∷ [])
  one_more q m o b' w' out' e up l eb ew eo =
      let a = answer F b m in
      let f = some-fuel g.fuel refl (within s p q m o e) in
      let here : ran_from g.fuel F s (length out₀) b p w ≡ more (exchange m a) (ran_from f.0 F s (length out₀) b' q w') =
      ap (λ (x : ℕ). ran_from x F s (length out₀) b p w) f.1 ∙ at-order F s (length out₀) b p w f.0 q m o e
      ∙ cond-false _ _ _ (le-ltb (length out₀) (w + 17) l)
      ∙ ap (λ (x : Book). more (exchange m a) (ran_from f.0 F s (length out₀) x q (w + length (answer_bytes a)))) (sym eb)
      ∙ ap (λ (x : ℕ). more (exchange m a) (ran_from f.0 F s (length out₀) b' q x)) (sym ew) in
      record {
        fuel = f.0;
        enough = omega (arith, g.enough, f.1);
        same = then_push xs (exchange m a) (ran_from f.0 F s (length out₀) b' q w') ∙ ap (then xs) (sym here) ∙ g.same;
        laid_so =
            eo ∙ ap (λ (x : List ℕ). laid x w (answer_bytes a)) g.laid_so ∙ ap (λ (x : ℕ). laid (laid out₀ 0 (bytes_of xs)) x (answer_bytes a)) (g.wrote ∙ omega arith)
            ∙ sym (laid_append out₀ 0 (bytes_of xs) (answer_bytes a)) ∙ ap (laid out₀ 0) (sym (bytes_push xs (exchange m a)));
        counted = omega (arith, g.counted, length_push xs (exchange m a));
        wrote = omega (arith, ew, g.wrote, ap length (bytes_push xs (exchange m a)), length-append (bytes_of xs) (answer_bytes a));
        few = omega (arith, g.few);
      }
