-- Decides whether two terms are equal and whether a list contains a term.
use Rattle.std.proofs.Common.{◌≡◌, inl, inr, List, [], ◌∷◌, ◌++◌, ap, subst}
use Rattle.std.specs.List.{Contains}
use Rattle.std.proofs.lemmas.Bool.{cases_eq}
use Rattle.mh_grammar.proofs.Lists.{contains_here, contains_there, contains_cases, contains_none}
use Rattle.mh_rules.specs.declared.joined.Head.{Head}
use Rattle.mh_rules.specs.declared.joined.Head.TheVariants.{Formal, Token, Rule}
use Rattle.mh_expand.specs.Terms.{Term, Atom, Apply}
use Rattle.mh_grammar.proofs.DecidedSearch.{Decided}

head_eq : (g h : Head) → Decided (g ≡ h)
head_eq (Formal k) (Formal n) = elim (cases_eq k n) [ inl e ↦ inl (ap Formal e) | inr d ↦ inr (λ f. let e : k ≡ n = cc in d e) ]
head_eq (Token k) (Token n) = elim (cases_eq k n) [ inl e ↦ inl (ap Token e) | inr d ↦ inr (λ f. let e : k ≡ n = cc in d e) ]
head_eq (Rule k) (Rule n) = elim (cases_eq k n) [ inl e ↦ inl (ap Rule e) | inr d ↦ inr (λ f. let e : k ≡ n = cc in d e) ]
head_eq (Formal k) (Token n) = inr (λ f. cc)
head_eq (Formal k) (Rule n) = inr (λ f. cc)
head_eq (Token k) (Formal n) = inr (λ f. cc)
head_eq (Token k) (Rule n) = inr (λ f. cc)
head_eq (Rule k) (Formal n) = inr (λ f. cc)
head_eq (Rule k) (Token n) = inr (λ f. cc)

both : (f x g y : Term) → Decided (f ≡ g) → Decided (x ≡ y) → Decided (Apply f x ≡ Apply g y)
both f x g y (inl a) (inl b) = inl (λ i. Apply (a i) (b i))
both f x g y (inr n) d = inr (λ e. let a : f ≡ g = cc in n a)
both f x g y (inl a) (inr n) = inr (λ e. let b : x ≡ y = cc in n b)

term_eq : (s t : Term) → Decided (s ≡ t)
term_eq (Atom g) (Atom h) = elim (head_eq g h) [ inl e ↦ inl (ap Atom e) | inr d ↦ inr (λ f. let e : g ≡ h = cc in d e) ]
term_eq (Atom g) (Apply f x) = inr (λ e. cc)
term_eq (Apply f x) (Atom g) = inr (λ e. cc)
term_eq (Apply f x) (Apply g y) = both f x g y (term_eq f g) (term_eq x y)

pub contains_or : (ts : List Term) (t : Term) → Decided (Contains ts t)
contains_or [] t = inr (λ c. contains_none t c)
contains_or (s ∷ ts) t = by (term_eq s t) (contains_or ts t)
  where
    by : Decided (s ≡ t) → Decided (Contains ts t) → Decided (Contains (s ∷ ts) t)
    by (inl e) d = inl (subst (λ (u : Term). Contains (s ∷ ts) u) e (contains_here s ts))
    by (inr n) (inl c) = inl (contains_there s ts t c)
    by (inr n) (inr d) = inr (λ c. elim (contains_cases s ts t c) [ inl e ↦ n e | inr c ↦ d c ])

pub split_in : (ts : List Term) (t : Term) → Contains ts t → (before after : List Term) × (ts ≡ before ++ t ∷ after)
split_in [] t c = absurd (contains_none t c)
split_in (s ∷ ts) t c = elim (contains_cases s ts t c) [
  | inl e ↦ ([], ts, ap (λ (u : Term). u ∷ ts) e)
  | inr d ↦ (let r = split_in ts t d in (s ∷ r.0, r.1, ap (λ us. s ∷ us) r.2))
]
