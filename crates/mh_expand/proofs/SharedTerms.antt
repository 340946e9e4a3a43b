-- Lemmas on terms that share their subterms: all terms differ, and each node has the meaning of its term.
use Rattle.std.proofs.Common.{◌≡◌, ℕ, zero, suc, ◌+◌, ◌<◌, ◌≤◌, List, [], ◌∷◌, ◌++◌, Some, length, refl, sym, ap, subst, zero-add, ◌∙◌, arith, append_assoc, inl, inr, Result, Ok, Err, IfOk, OnErr}
use Rattle.std.specs.List.{slice_get, All, AllByRecursion}
use Rattle.std.specs.Option.{unwrap_or}
use Rattle.std.proofs.lemmas.List.{append-nil, length_push, length-map}
use Rattle.std.proofs.lemmas.List.Elements.{recursion_from_All}
use Rattle.std.proofs.lemmas.Option.{slice_get_within}
use Rattle.mh_grammar.specs.Numbering.{AreDistinct}
use Rattle.mh_grammar.specs.Placed.{Placed}
use Rattle.mh_grammar.proofs.Lists.{get_within}
use Rattle.mh_grammar.proofs.NumberingInvariant.{get_left, get_last, get_cases, AreDistinct-push, at_contains}
use Rattle.mh_expand.specs.declared.applications.Application.{Application}
use Rattle.mh_expand.specs.Terms.{Term, Atom, apply_all, head_of, arguments}
use Rattle.mh_expand.specs.code.SharedTerms.{term_at, terms_at, node_term, terms_from, terms_of, AreNodes, IsExtendedBy}
use Rattle.mh_expand.proofs.ApplyAll.{head_unique, arguments_unique, head_of-apply_all, arguments-apply_all}

-- Appending terms keeps the terms with smaller numbers.
pub term_at-left : (ts more : List Term) (n : ℕ) → n < length ts → term_at (ts ++ more) n ≡ term_at ts n
term_at-left [] more n l = absurd (omega arith)
term_at-left (t ∷ ts) more zero l = refl
term_at-left (t ∷ ts) more (suc n) l = term_at-left ts more n (omega arith)

pub terms_at-left : (ts more : List Term) (ns : List ℕ) → AllByRecursion (λ n. n < length ts) ns → terms_at (ts ++ more) ns ≡ terms_at ts ns
terms_at-left ts more [] a = refl
terms_at-left ts more (n ∷ ns) a = let first = term_at-left ts more n a.0 in let rest = terms_at-left ts more ns a.1 in λ i. first i ∷ rest i

pub terms_at-kept : (ts us : List Term) (ns : List ℕ) → IsExtendedBy ts us → All (λ n. n < length ts) ns → terms_at us ns ≡ terms_at ts ns
terms_at-kept ts us ns g a = rw g.1 (terms_at-left ts g.0 ns (recursion_from_All (λ n. n < length ts) ns a))

pub slice_get-term_at : (ts : List Term) (n : ℕ) → n < length ts → slice_get ts n ≡ Some (term_at ts n)
slice_get-term_at [] n l = absurd (omega arith)
slice_get-term_at (t ∷ ts) zero l = refl
slice_get-term_at (t ∷ ts) (suc n) l = slice_get-term_at ts n (omega arith)

pub term_at-slice_get : (ts : List Term) (n : ℕ) (t : Term) → slice_get ts n ≡ Some t → term_at ts n ≡ t
term_at-slice_get ts n t e = ap (λ o. unwrap_or o (term_at [] n)) e

pub node_term-kept : (ts us : List Term) (n : Application) → IsExtendedBy ts us → All (λ a. a < length ts) n.args → node_term us n ≡ node_term ts n
node_term-kept ts us n g a = ap (apply_all (Atom n.head)) (terms_at-kept ts us n.args g a)

-- If the terms of the nodes `ns` are appended to the list `ts`, the new list begins with `ts`.
from-grows : (ts : List Term) (ns : List Application) → IsExtendedBy ts (terms_from ts ns)
from-grows ts [] = ([], sym (append-nil ts))
from-grows ts (n ∷ ns) =
    let rest = from-grows (ts ++ node_term ts n ∷ []) ns in
    (node_term ts n ∷ rest.0, rest.1 ∙ append_assoc ts (node_term ts n ∷ []) rest.0)

from-length : (ts : List Term) (ns : List Application) → length (terms_from ts ns) ≡ length ts + length ns
from-length ts [] = omega arith
from-length ts (n ∷ ns) = omega (arith, from-length (ts ++ node_term ts n ∷ []) ns, length_push ts (node_term ts n))

from-push : (ts : List Term) (ns : List Application) (n : Application) → terms_from ts (ns ++ n ∷ []) ≡ terms_from ts ns ++ node_term (terms_from ts ns) n ∷ []
from-push ts [] n = refl
from-push ts (m ∷ ns) n = from-push (ts ++ node_term ts m ∷ []) ns n

from-means : (ts : List Term) (ns : List Application) (i : ℕ) (n : Application) → slice_get ns i ≡ Some n → All (λ a. a < length ts + i) n.args → slice_get (terms_from ts ns) (length ts + i) ≡ Some (node_term (terms_from ts ns) n)
from-means ts [] i n e a = cc
from-means ts (m ∷ ns) zero n e a =
    let same : m ≡ n = cc in
    let us = ts ++ node_term ts m ∷ [] in
    let g = from-grows us ns in
    let whole = from-grows ts (m ∷ ns) in
    let here : slice_get us (length ts + 0) ≡ Some (node_term ts m) = get_last ts (node_term ts m) (length ts + 0) (omega arith) in
    let there : slice_get (terms_from us ns) (length ts + 0) ≡ Some (node_term ts m) = rw g.1 (get_left us g.0 (length ts + 0) (node_term ts m) here) in
    let kept = node_term-kept ts (terms_from us ns) m whole (λ k d l. let b = a k d (rw (← same) l) in omega (arith, rw (← same) at b)) in
    there ∙ ap Some (sym kept) ∙ ap (λ x. Some (node_term (terms_from us ns) x)) same
from-means ts (m ∷ ns) (suc i) n e a =
    let us = ts ++ node_term ts m ∷ [] in
    let l : length us + i ≡ length ts + suc i = omega (arith, length_push ts (node_term ts m)) in
    let P : ℕ → Type 0 = λ k. slice_get (terms_from us ns) k ≡ Some (node_term (terms_from us ns) n) in
    subst P l (from-means us ns i n e (rw l a))

pub terms_of-none : terms_of [] ≡ []
unfolding terms_of
terms_of-none = refl

pub terms_of-push : (ns : List Application) (n : Application) → terms_of (ns ++ n ∷ []) ≡ terms_of ns ++ node_term (terms_of ns) n ∷ []
unfolding terms_of
terms_of-push ns n = from-push [] ns n

pub terms_of-length : (ns : List Application) → length (terms_of ns) ≡ length ns
unfolding terms_of
terms_of-length ns = from-length [] ns ∙ zero-add (length ns)

module _ (ns : List Application) (w : AreNodes ns) where
  pub terms_of-means : (i : ℕ) (n : Application) → slice_get ns i ≡ Some n → slice_get (terms_of ns) i ≡ Some (node_term (terms_of ns) n)
  unfolding terms_of
  terms_of-means i n e =
      let l : 0 + i ≡ i = omega arith in
      let P : ℕ → Type 0 = λ k. slice_get (terms_from [] ns) k ≡ Some (node_term (terms_from [] ns) n) in
      subst P l (from-means [] ns i n e (rw l (w.below i n e)))

  meaning : (i : ℕ) (n : Application) → slice_get ns i ≡ Some n → term_at (terms_of ns) i ≡ node_term (terms_of ns) n
  meaning i n e = term_at-slice_get (terms_of ns) i (node_term (terms_of ns) n) (terms_of-means i n e)

  -- A number below m is the only number of its term.
  record AreUniqueNumbers (m : ℕ) : Type 0 where
    unique : (i j : ℕ) → i < m → i < length ns → j < length ns → term_at (terms_of ns) i ≡ term_at (terms_of ns) j → i ≡ j

  one_numbers : (m : ℕ) → AreUniqueNumbers m → (a b : List ℕ) → AllByRecursion (λ n. n < m) a → AllByRecursion (λ n. n < length ns) a → AllByRecursion (λ n. n < length ns) b → terms_at (terms_of ns) a ≡ terms_at (terms_of ns) b → a ≡ b
  one_numbers m h [] [] p r q e = refl
  one_numbers m h [] (y ∷ b) p r q e = cc
  one_numbers m h (x ∷ a) [] p r q e = cc
  one_numbers m h (x ∷ a) (y ∷ b) p r q e =
      let head : term_at (terms_of ns) x ≡ term_at (terms_of ns) y = cc in
      let rest : terms_at (terms_of ns) a ≡ terms_at (terms_of ns) b = cc in
      let first = h.unique x y p.0 r.0 q.0 head in
      let others = one_numbers m h a b p.1 r.1 q.1 rest in
      λ i. first i ∷ others i

  all_below : (i n : ℕ) (xs : List ℕ) → i ≤ n → All (λ a. a < i) xs → AllByRecursion (λ a. a < n) xs
  all_below i n xs l a = recursion_from_All (λ x. x < n) xs (λ k d m. omega (arith, a k d m))

  are_one : (m : ℕ) → AreUniqueNumbers m
  are_one zero = record { unique = λ i j l. absurd (omega arith) }
  are_one (suc m) = record {
    unique = λ i j l inside k e.
        let n = get_within ns i inside in
        let o = get_within ns j k in
        let same : node_term (terms_of ns) n.0 ≡ node_term (terms_of ns) o.0 = sym (meaning i n.0 n.1) ∙ e ∙ meaning j o.0 o.1 in
        let heads = head_unique n.0.head o.0.head (terms_at (terms_of ns) n.0.args) (terms_at (terms_of ns) o.0.args) same in
        let lists = arguments_unique n.0.head o.0.head (terms_at (terms_of ns) n.0.args) (terms_at (terms_of ns) o.0.args) same in
        let args = one_numbers m (are_one m) n.0.args o.0.args (all_below i m n.0.args (omega arith) (w.below i n.0 n.1)) (all_below i (length ns) n.0.args (omega arith) (w.below i n.0 n.1)) (all_below j (length ns) o.0.args (omega arith) (w.below j o.0 o.1)) lists in
        let node : n.0 ≡ o.0 = λ t. record { head = heads t; args = args t } in
        w.distinct.same i j o.0 (n.1 ∙ ap Some node) o.1;
  }

  pub terms_of-distinct : AreDistinct (terms_of ns)
  terms_of-distinct = record {
    same = λ i j t e f.
        let len = terms_of-length ns in
        let l : i < length ns = omega (arith, slice_get_within (terms_of ns) i t e) in
        let k : j < length ns = omega (arith, slice_get_within (terms_of ns) j t f) in
        (are_one (length ns)).unique i j l l k (term_at-slice_get (terms_of ns) i t e ∙ sym (term_at-slice_get (terms_of ns) j t f));
  }

-- Inserting a node keeps the nodes right.
pub AreNodes-none : AreNodes []
AreNodes-none = record { distinct = record { same = λ i j x e f. cc }; below = λ i n e. cc }

pub AreNodes-placed : (old new : List Application) (n : Application) (at : ℕ) → AreNodes old → All (λ a. a < length (terms_of old)) n.args → Placed old new n at → AreNodes new
AreNodes-placed old new n at w below p = elim p.grown [
  | inl g ↦ rw g.0 w
  | inr g ↦ rw g.0 (record {
    distinct = AreDistinct-push old n w.distinct g.2;
    below = λ i m e. elim (get_cases old n i m e) [
      | inl before ↦ w.below i m before
      | inr last ↦ rw (last.1, last.0) (λ k d l. omega (arith, below k d l, terms_of-length old))
    ];
  })
]

pub Placed-term : (old new : List Application) (n : Application) (at : ℕ) → AreNodes old → AreNodes new → Placed old new n at → Placed (terms_of old) (terms_of new) (node_term (terms_of old) n) at
Placed-term old new n at w v p = elim p.grown [
  | inl g ↦ record {
    at = rw g.0 (terms_of-means old w at n (rw g.0 at p.at));
    grown = inl (ap terms_of g.0, omega (arith, g.1, terms_of-length old));
  }
  | inr g ↦ (let new_terms : terms_of new ≡ terms_of old ++ node_term (terms_of old) n ∷ [] = ap terms_of g.0 ∙ terms_of-push old n in
      let last : at ≡ length (terms_of old) = omega (arith, g.1, terms_of-length old) in
      let here : slice_get (terms_of new) at ≡ Some (node_term (terms_of old) n) = rw new_terms (get_last (terms_of old) (node_term (terms_of old) n) at last) in
      record {
        at = here;
        grown = inr (
          new_terms,
          last,
          λ c. let found = at_contains (terms_of old) (node_term (terms_of old) n) c in
              let again : slice_get (terms_of new) found.0 ≡ Some (node_term (terms_of old) n) = rw new_terms (get_left (terms_of old) (node_term (terms_of old) n ∷ []) found.0 (node_term (terms_of old) n) found.1) in
              let one = (terms_of-distinct new v).same found.0 at (node_term (terms_of old) n) again here in
              omega (arith, one, slice_get_within (terms_of old) found.0 (node_term (terms_of old) n) found.1),
        );
      })
]

pub AreNodes-result : {E : Type 0} (r : Result ℕ E) (old new : List Application) (n : Application) → AreNodes old → All (λ a. a < length (terms_of old)) n.args → IfOk r (Placed old new n) → OnErr r (new ≡ old) → AreNodes new
AreNodes-result (Ok at) old new n w below p q = AreNodes-placed old new n at w below p
AreNodes-result (Err e) old new n w below p q = rw q w

-- A node has the head and the number of arguments of its term.
pub node_head : (ts : List Term) (number : ℕ) (n : Application) → slice_get ts number ≡ Some (node_term ts n) → head_of (term_at ts number) ≡ n.head
node_head ts number n e = ap head_of (term_at-slice_get ts number (node_term ts n) e) ∙ head_of-apply_all (Atom n.head) (terms_at ts n.args)

pub node_arguments : (ts : List Term) (number : ℕ) (n : Application) → slice_get ts number ≡ Some (node_term ts n) → arguments (term_at ts number) ≡ terms_at ts n.args
node_arguments ts number n e = ap arguments (term_at-slice_get ts number (node_term ts n) e) ∙ arguments-apply_all (Atom n.head) (terms_at ts n.args)

pub node_count : (ts : List Term) (number : ℕ) (n : Application) → slice_get ts number ≡ Some (node_term ts n) → length (arguments (term_at ts number)) ≡ length n.args
node_count ts number n e = ap length (node_arguments ts number n e) ∙ length-map n.args (term_at ts)
