use Rattle.std.proofs.Common.{◌≡◌, ◌++◌, ℕ, List, length, ap, ◌∙◌, append_assoc, rules}
use Rattle.std.specs.Prelude.{codes, decimal}
use Rattle.mh_sample.specs.Counts.{grammar_sizes}
use Rattle.mh_sample.proofs.counting.write_grammar_sizes.Goals as goal

regroup : (o a b c d e f : List ℕ) → (((((o ++ a) ++ b) ++ c) ++ d) ++ e) ++ f ≡ o ++ (((((a ++ b) ++ c) ++ d) ++ e) ++ f)
regroup o a b c d e f = simp append_assoc

sizes_by : (o t1 t2 t3 : List ℕ) (number tokens productions n m p : ℕ) → n ≡ number → m ≡ tokens → p ≡ productions → t1 ≡ (o ++ codes "sample ") ++ decimal n → t2 ≡ (t1 ++ codes ": tokens ") ++ decimal m → t3 ≡ (t2 ++ codes ", productions ") ++ decimal p
    → t3 ≡ o ++ grammar_sizes number tokens productions
unfolding grammar_sizes
sizes_by o t1 t2 t3 number tokens productions n m p e1 e2 e3 p1 p2 p3 =
    p3 ∙ ap (λ (k : ℕ). (t2 ++ codes ", productions ") ++ decimal k) e3
    ∙ ap (λ (t : List ℕ). (t ++ codes ", productions ") ++ decimal productions)
    (p2 ∙ ap (λ (k : ℕ). (t1 ++ codes ": tokens ") ++ decimal k) e2 ∙ ap (λ (t : List ℕ). (t ++ codes ": tokens ") ++ decimal tokens) (p1 ∙ ap (λ (k : ℕ). (o ++ codes "sample ") ++ decimal k) e1))
    ∙ regroup o (codes "sample ") (decimal number) (codes ": tokens ") (decimal tokens) (codes ", productions ") (decimal productions)

pub returns : goal.returns
returns c =
    sizes_by c.args.text.now.items c.write_count.new.text.items c.write_count-2.new.text.items c.write_count-3.new.text.items c.args.number (length c.args.grammar.now.tokens) (length c.args.grammar.now.productions) _ _ _
    (search rules) (search rules) (search rules) c.in_ok-write_count.ensures c.in_ok-write_count-2.ensures c.in_ok-write_count-3.ensures
