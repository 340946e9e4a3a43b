-- Proves that the orders of words and of labels obey the laws that the search needs.
use Rattle.std.proofs.Common.{◌≡◌, ℕ, ◌+◌, ◌<◌, ◌≤◌, ◌⊎◌, inl, inr, List, [], ◌∷◌, ◌++◌, refl, ap, arith, ◌∙◌}
use Rattle.std.proofs.lemmas.Bool.{cases_lt}
use Rattle.mh_facts.specs.code.BestFirst.{WordOrderLaws, LabelOrderLaws, Label, extended_label}
use Rattle.mh_grammar.specs.WordOrder.{LexLe}
use Rattle.mh_tables_core.specs.Failing.{cost_by}
use Rattle.mh_grammar.proofs.WordOrder.{lex_refl, lex_trans, lex_prefix}
use Rattle.mh_facts.specs.code.Orders.{CostLe, CostLexLe, SentenceLe}
use Rattle.mh_facts.specs.Costs.{cap}
use Rattle.mh_facts.specs.code.Orders as orders

pub cost_append : (weigh : ℕ → ℕ) (u v : List ℕ) → cost_by weigh (u ++ v) ≡ cost_by weigh u + cost_by weigh v
cost_append weigh [] v = omega arith
cost_append weigh (x ∷ u) v = let h = cost_append weigh u v in omega arith

module _ (weigh : ℕ → ℕ) (some : (x : ℕ) → 0 < weigh x) where
  -- The lexicographic order of words of one cost is kept by concatenation, for no such word is a proper prefix of
  -- another.
  lex_both : (u u' v v' : List ℕ) → cost_by weigh u ≡ cost_by weigh u' → LexLe u u' → LexLe v v' → LexLe (u ++ v) (u' ++ v')
  lex_both [] [] v v' e a b = b
  lex_both [] (x ∷ u') v v' e a b = absurd (let s = some x in omega arith)
  lex_both (x ∷ u) [] v v' e a b = absurd a
  lex_both (x ∷ u) (y ∷ u') v v' e (inl a) b = inl a
  lex_both (x ∷ u) (y ∷ u') v v' e (inr a) b = inr (a.0, lex_both u u' v v' (let w : weigh x ≡ weigh y = ap weigh a.0 in omega arith) a.1 b)

  first_after : (u v w : List ℕ) → CostLexLe weigh u v → CostLexLe weigh v w → CostLexLe weigh u w
  first_after u v w (orders.CostLexLe.Cheaper a) (orders.CostLexLe.Cheaper b) = orders.CostLexLe.Cheaper (omega arith)
  first_after u v w (orders.CostLexLe.Cheaper a) (orders.CostLexLe.Over b c) = elim (cases_lt (cost_by weigh u) (cost_by weigh w)) [ inl l ↦ orders.CostLexLe.Cheaper l | inr r ↦ orders.CostLexLe.Over (omega arith) c ]
  first_after u v w (orders.CostLexLe.Cheaper a) (orders.CostLexLe.Lower b c) = orders.CostLexLe.Cheaper (omega arith)
  first_after u v w (orders.CostLexLe.Over a b) (orders.CostLexLe.Cheaper c) = orders.CostLexLe.Over a (omega arith)
  first_after u v w (orders.CostLexLe.Over a b) (orders.CostLexLe.Over c d) = orders.CostLexLe.Over a d
  first_after u v w (orders.CostLexLe.Over a b) (orders.CostLexLe.Lower c d) = orders.CostLexLe.Over a (omega arith)
  first_after u v w (orders.CostLexLe.Lower a b) (orders.CostLexLe.Cheaper c) = orders.CostLexLe.Cheaper (omega arith)
  first_after u v w (orders.CostLexLe.Lower a b) (orders.CostLexLe.Over c d) = orders.CostLexLe.Over (omega arith) d
  first_after u v w (orders.CostLexLe.Lower a b) (orders.CostLexLe.Lower c d) = orders.CostLexLe.Lower (a ∙ c) (lex_trans u v w b d)

  -- If u costs less than v, or both cost at least the highest cost, u comes no later than v.
  cheaper_or : (u v : List ℕ) → (cost_by weigh u < cost_by weigh v) ⊎ ((cap ≤ cost_by weigh u) × (cap ≤ cost_by weigh v)) → CostLexLe weigh u v
  cheaper_or u v (inl l) = orders.CostLexLe.Cheaper l
  cheaper_or u v (inr o) = orders.CostLexLe.Over o.0 o.1

  less_or : (a b c d : ℕ) → a < b → (c ≤ d) ⊎ ((cap ≤ c) × (cap ≤ d)) → (a + c < b + d) ⊎ ((cap ≤ a + c) × (cap ≤ b + d))
  less_or a b c d l (inl h) = inl (omega arith)
  less_or a b c d l (inr h) = inr (omega (arith, h.0), omega (arith, h.1))

  cost_le : (u v : List ℕ) → CostLexLe weigh u v → CostLe weigh u v
  cost_le u v (orders.CostLexLe.Cheaper a) = inl (omega arith)
  cost_le u v (orders.CostLexLe.Over a b) = inr (a, b)
  cost_le u v (orders.CostLexLe.Lower a b) = inl (omega arith)

  first_both : (u u' v v' : List ℕ) → CostLexLe weigh u u' → CostLexLe weigh v v' → CostLexLe weigh (u ++ v) (u' ++ v')
  first_both u u' v v' (orders.CostLexLe.Over a b) h = let l = cost_append weigh u v in let r = cost_append weigh u' v' in orders.CostLexLe.Over (omega arith) (omega arith)
  first_both u u' v v' (orders.CostLexLe.Cheaper a) h =
      cheaper_or (u ++ v) (u' ++ v') (rw (cost_append weigh u v, cost_append weigh u' v') (less_or (cost_by weigh u) (cost_by weigh u') (cost_by weigh v) (cost_by weigh v') a (cost_le v v' h)))
  first_both u u' v v' (orders.CostLexLe.Lower a b) (orders.CostLexLe.Over c d) = let l = cost_append weigh u v in let r = cost_append weigh u' v' in orders.CostLexLe.Over (omega arith) (omega arith)
  first_both u u' v v' (orders.CostLexLe.Lower a b) (orders.CostLexLe.Cheaper c) = let l = cost_append weigh u v in let r = cost_append weigh u' v' in orders.CostLexLe.Cheaper (omega arith)
  first_both u u' v v' (orders.CostLexLe.Lower a b) (orders.CostLexLe.Lower c d) =
      let l = cost_append weigh u v in let r = cost_append weigh u' v' in orders.CostLexLe.Lower (omega arith) (lex_both u u' v v' a b d)

  first_front : (u v : List ℕ) → CostLexLe weigh u (u ++ v)
  first_front u v =
      let l = cost_append weigh u v in
      elim (cases_lt 0 (cost_by weigh v)) [ inl some ↦ orders.CostLexLe.Cheaper (omega arith) | inr none ↦ orders.CostLexLe.Lower (omega arith) (lex_prefix u v) ]

  first_back : (u v : List ℕ) → CostLexLe weigh v (u ++ v)
  first_back [] v = orders.CostLexLe.Lower refl (lex_refl v)
  first_back (x ∷ u) v = let l = cost_append weigh u v in let s = some x in orders.CostLexLe.Cheaper (omega arith)

  pub first_laws : WordOrderLaws (CostLexLe weigh)
  first_laws = record { reflexive = λ u. orders.CostLexLe.Lower refl (lex_refl u); transitive = first_after; monotone = first_both; prefix = first_front; suffix = first_back }

  sentence_both : (k l : Label) (u v : List ℕ) → SentenceLe weigh k l → CostLexLe weigh u v → SentenceLe weigh (extended_label k u) (extended_label l v)
  sentence_both k l u v (orders.SentenceLe.Over a b) h = let x = cost_append weigh k.word u in let y = cost_append weigh l.word v in orders.SentenceLe.Over (omega arith) (omega arith)
  sentence_both k l u v (orders.SentenceLe.Cheaper a) h =
      let x = cost_append weigh k.word u in let y = cost_append weigh l.word v in
      elim (less_or (cost_by weigh k.word) (cost_by weigh l.word) (cost_by weigh u) (cost_by weigh v) a (cost_le u v h)) [
        | inl less ↦ orders.SentenceLe.Cheaper (omega arith)
        | inr over ↦ orders.SentenceLe.Over (omega (arith, over.0)) (omega (arith, over.1))
      ]
  sentence_both k l u v (orders.SentenceLe.Sooner a b) (orders.CostLexLe.Cheaper c) = let x = cost_append weigh k.word u in let y = cost_append weigh l.word v in orders.SentenceLe.Cheaper (omega arith)
  sentence_both k l u v (orders.SentenceLe.Sooner a b) (orders.CostLexLe.Over c d) = let x = cost_append weigh k.word u in let y = cost_append weigh l.word v in orders.SentenceLe.Over (omega arith) (omega arith)
  sentence_both k l u v (orders.SentenceLe.Sooner a b) (orders.CostLexLe.Lower c d) = let x = cost_append weigh k.word u in let y = cost_append weigh l.word v in orders.SentenceLe.Sooner (omega arith) b
  sentence_both k l u v (orders.SentenceLe.Lower a s b) (orders.CostLexLe.Cheaper c) = let x = cost_append weigh k.word u in let y = cost_append weigh l.word v in orders.SentenceLe.Cheaper (omega arith)
  sentence_both k l u v (orders.SentenceLe.Lower a s b) (orders.CostLexLe.Over c d) = let x = cost_append weigh k.word u in let y = cost_append weigh l.word v in orders.SentenceLe.Over (omega arith) (omega arith)
  sentence_both k l u v (orders.SentenceLe.Lower a s b) (orders.CostLexLe.Lower c d) =
      let x = cost_append weigh k.word u in let y = cost_append weigh l.word v in orders.SentenceLe.Lower (omega arith) s (lex_both k.word l.word u v a b d)

  sentence_after : (k l m : Label) → SentenceLe weigh k l → SentenceLe weigh l m → SentenceLe weigh k m
  sentence_after k l m (orders.SentenceLe.Over a b) (orders.SentenceLe.Over c d) = orders.SentenceLe.Over a d
  sentence_after k l m (orders.SentenceLe.Over a b) (orders.SentenceLe.Cheaper c) = orders.SentenceLe.Over a (omega arith)
  sentence_after k l m (orders.SentenceLe.Over a b) (orders.SentenceLe.Sooner c d) = orders.SentenceLe.Over a (omega arith)
  sentence_after k l m (orders.SentenceLe.Over a b) (orders.SentenceLe.Lower c s d) = orders.SentenceLe.Over a (omega arith)
  sentence_after k l m (orders.SentenceLe.Cheaper a) (orders.SentenceLe.Over c d) = elim (cases_lt (cost_by weigh k.word) (cost_by weigh m.word)) [ inl x ↦ orders.SentenceLe.Cheaper x | inr y ↦ orders.SentenceLe.Over (omega arith) d ]
  sentence_after k l m (orders.SentenceLe.Cheaper a) (orders.SentenceLe.Cheaper c) = orders.SentenceLe.Cheaper (omega arith)
  sentence_after k l m (orders.SentenceLe.Cheaper a) (orders.SentenceLe.Sooner c d) = orders.SentenceLe.Cheaper (omega arith)
  sentence_after k l m (orders.SentenceLe.Cheaper a) (orders.SentenceLe.Lower c s d) = orders.SentenceLe.Cheaper (omega arith)
  sentence_after k l m (orders.SentenceLe.Sooner a b) (orders.SentenceLe.Over c d) = orders.SentenceLe.Over (omega arith) d
  sentence_after k l m (orders.SentenceLe.Sooner a b) (orders.SentenceLe.Cheaper c) = orders.SentenceLe.Cheaper (omega arith)
  sentence_after k l m (orders.SentenceLe.Sooner a b) (orders.SentenceLe.Sooner c d) = orders.SentenceLe.Sooner (a ∙ c) (omega arith)
  sentence_after k l m (orders.SentenceLe.Sooner a b) (orders.SentenceLe.Lower c s d) = orders.SentenceLe.Sooner (a ∙ c) (omega arith)
  sentence_after k l m (orders.SentenceLe.Lower a s b) (orders.SentenceLe.Over c d) = orders.SentenceLe.Over (omega arith) d
  sentence_after k l m (orders.SentenceLe.Lower a s b) (orders.SentenceLe.Cheaper c) = orders.SentenceLe.Cheaper (omega arith)
  sentence_after k l m (orders.SentenceLe.Lower a s b) (orders.SentenceLe.Sooner c d) = orders.SentenceLe.Sooner (a ∙ c) (omega arith)
  sentence_after k l m (orders.SentenceLe.Lower a s b) (orders.SentenceLe.Lower c s' d) = orders.SentenceLe.Lower (a ∙ c) (s ∙ s') (lex_trans k.word l.word m.word b d)

  sentence_front : (k : Label) (v : List ℕ) → SentenceLe weigh k (extended_label k v)
  sentence_front k v =
      let l = cost_append weigh k.word v in
      elim (cases_lt 0 (cost_by weigh v)) [ inl some ↦ orders.SentenceLe.Cheaper (omega arith) | inr none ↦ orders.SentenceLe.Lower (omega arith) refl (lex_prefix k.word v) ]

  pub sentence_laws : LabelOrderLaws (CostLexLe weigh) (SentenceLe weigh)
  sentence_laws = record { reflexive = λ l. orders.SentenceLe.Lower refl refl (lex_refl l.word); transitive = sentence_after; monotone = sentence_both; prefix = sentence_front }
