-- The lines of a file, one mention after another.
use Rattle.std.proofs.Common.{◌≡◌, ℕ, zero, suc, ◌+◌, ◌<◌, ◌≤◌, List, [], ◌∷◌, ◌++◌, Option, length, map, get_or, take, drop, sym, ap, subst, ◌∙◌, append_assoc}
use Rattle.std.specs.List.{All, AllByRecursion}
use Rattle.std.proofs.lemmas.List.{append-nil, drop_all, map-append, take_all}
use Rattle.std.proofs.lemmas.List.Elements.{All-append, All-cons, All-nil, recursion_from_All}
use Rattle.mh_grammar.proofs.Lists.{drop_step, take_step}
use Rattle.mh_grammar.specs.Text.{Text}
use Rattle.mh_join_names.specs.Faults.{Meanings}
use Rattle.mh_reader_places.specs.declared.mentions.Mention.{Mention}
use Rattle.mh_lint_findings.specs.Lines.{Line, lines_of}
use Rattle.mh_lint_findings.specs.code.AppendedLines.{AppendsLines}
use Rattle.mh_lint_findings.specs.declared.findings.Finding.{Finding}
use Rattle.mh_lint_faults.specs.Stages.{Stages}
use Rattle.mh_lint.specs.Built.{Built}
use Rattle.mh_lint.specs.Warnings.{AreFileLines, IsNoneBefore, cost_line}
use Rattle.mh_lint.specs.Warnings as lines
use Rattle.mh_lint.specs.code.MentionUses.{IsWarningFound, warning_lines}
use Rattle.mh_lint.specs.code.MentionUses as uses

-- ---- Attributes that should give a cost.

-- One more attribute that comes before a place.
pub one_before : (costs : List ℕ) (i x place : ℕ) → i < length costs → x ≡ get_or costs i x → x < place → All (λ start. start < place) (take i costs) → All (λ start. start < place) (take (i + 1) costs)
one_before costs i x place l at early h = rw (take_step costs i x l at) (All-append (λ start. start < place) (take i costs) (x ∷ []) h (All-cons (λ start. start < place) x [] early (All-nil (λ start. start < place))))

-- The next attribute does not come before the place.
pub next_after : (costs : List ℕ) (i x place : ℕ) → i < length costs → x ≡ get_or costs i x → place ≤ x → IsNoneBefore (drop i costs) place
next_after costs i x place l at late = rw (drop_step costs i x l at) late

pub none_after : (costs : List ℕ) (i place : ℕ) → length costs ≤ i → IsNoneBefore (drop i costs) place
none_after costs i place past = rw (drop_all i costs past) tt

-- The line of one more attribute.
pub cost_added : (file : ℕ) (start : List Line) (costs : List ℕ) (i x : ℕ) (old new : List Line) → i < length costs → x ≡ get_or costs i x → old ≡ start ++ map (cost_line file) (take i costs) → new ≡ old ++ cost_line file x ∷ [] → new ≡ start ++ map (cost_line file) (take (i + 1) costs)
cost_added file start costs i x old new l at h e =
    e ∙ ap (λ ls. ls ++ cost_line file x ∷ []) h ∙ append_assoc start (map (cost_line file) (take i costs)) (cost_line file x ∷ [])
    ∙ ap (λ ls. start ++ ls) (sym (ap (map (cost_line file)) (take_step costs i x l at) ∙ map-append (cost_line file) (take i costs) (x ∷ [])))

pub costs_added : (file : ℕ) (start : List Line) (costs : List ℕ) (i : ℕ) (new : List Line) → length costs ≤ i → new ≡ start ++ map (cost_line file) (take i costs) → new ≡ start ++ map (cost_line file) costs
costs_added file start costs i new past h = h ∙ ap (λ cs. start ++ map (cost_line file) cs) (take_all i costs past)

-- ---- The lines of a file.

module _ (s : Stages) (b : Built) (w : Meanings) (file : ℕ) where
  abbrev Lines : List Mention → List Mention → List ℕ → List Line → Type 0
  Lines before xs costs ls = AreFileLines s b w file before xs costs ls

  -- The attributes before a mention come first.
  costs_first : (before xs : List Mention) (x : Mention) (costs : List ℕ) (n : ℕ) (rest : List Line) → AllByRecursion (λ start. start < x.start) (take n costs) → Lines before (x ∷ xs) (drop n costs) rest → Lines before (x ∷ xs) costs (map (cost_line file) (take n costs) ++ rest)
  costs_first before xs x [] zero rest h p = p
  costs_first before xs x [] (suc n) rest h p = p
  costs_first before xs x (start ∷ costs) zero rest h p = p
  costs_first before xs x (start ∷ costs) (suc n) rest h p = lines.AreFileLines.attribute h.0 (costs_first before xs x costs n rest h.1 p)

  -- Then comes the warning at the mention.
  mention_first : (before xs : List Mention) (x : Mention) (costs : List ℕ) (found : Option Text) (rest : List Line) → IsNoneBefore costs x.start → IsWarningFound s b w file before x found → Lines (before ++ x ∷ []) xs costs rest → Lines before (x ∷ xs) costs (warning_lines file x.start found ++ rest)
  mention_first before xs x costs found rest none (uses.IsWarningFound.none never) p = lines.AreFileLines.clear none never p
  mention_first before xs x costs found rest none (uses.IsWarningFound.some t is) p = lines.AreFileLines.warned t none is p

  module _ (ms : List Mention) (all : List ℕ) where
    -- The lines of the first i mentions, after which these attributes are left.
    pub record AreFirstLines (i : ℕ) (costs : List ℕ) (first : List Line) : Type 0 where
      pub goes : (rest : List Line) → AreFileLines s b w file (take i ms) (drop i ms) costs rest → AreFileLines s b w file [] ms all (first ++ rest)

    pub no_lines : (found : List Finding) → AppendsLines (AreFirstLines 0 all) found found
    no_lines found = record { lines = []; are = record { goes = λ rest p. p }; is = sym (append-nil (lines_of found)) }

    -- The lines of one more mention: those of the attributes before the mention, and its warning.
    pub more_lines : (i : ℕ) (x : Mention) (costs before after : List ℕ) (n : ℕ) (found : Option Text) (old mid costed new : List Finding) → i < length ms → x ≡ get_or ms i x
        → before ≡ take n costs → after ≡ drop n costs → All (λ start. start < x.start) (take n costs) → IsNoneBefore (drop n costs) x.start → IsWarningFound s b w file (take i ms) x found
        → AppendsLines (AreFirstLines i costs) old mid → lines_of costed ≡ lines_of mid ++ map (cost_line file) before → lines_of new ≡ lines_of costed ++ warning_lines file x.start found → AppendsLines (AreFirstLines (i + 1) after) old new
    more_lines i x costs before after n found old mid costed new l at front back early none is h puts warns = record {
      lines = h.lines ++ (map (cost_line file) (take n costs) ++ warning_lines file x.start found);
      are = record { goes = goes };
      is = warns ∙ ap (λ ls. ls ++ warning_lines file x.start found) (puts ∙ (λ j. h.is j ++ map (cost_line file) (front j)))
          ∙ append_assoc (lines_of old ++ h.lines) (map (cost_line file) (take n costs)) (warning_lines file x.start found)
          ∙ append_assoc (lines_of old) h.lines (map (cost_line file) (take n costs) ++ warning_lines file x.start found);
    }
      where
        goes : (rest : List Line) → Lines (take (i + 1) ms) (drop (i + 1) ms) after rest → Lines [] ms all ((h.lines ++ (map (cost_line file) (take n costs) ++ warning_lines file x.start found)) ++ rest)
        goes rest p =
            let here : Lines (take i ms ++ x ∷ []) (drop (i + 1) ms) (drop n costs) rest = subst (λ cs. Lines (take i ms ++ x ∷ []) (drop (i + 1) ms) cs rest) back (subst (λ before. Lines before (drop (i + 1) ms) after rest) (take_step ms i x l at) p) in
            let warned = mention_first (take i ms) (drop (i + 1) ms) x (drop n costs) found rest none is here in
            let costed = costs_first (take i ms) (drop (i + 1) ms) x costs n (warning_lines file x.start found ++ rest) (recursion_from_All (λ start. start < x.start) (take n costs) early) warned in
            let whole = h.are.goes _ (subst (λ xs. Lines (take i ms) xs costs (map (cost_line file) (take n costs) ++ (warning_lines file x.start found ++ rest))) (sym (drop_step ms i x l at)) costed) in
            subst (λ ls. Lines [] ms all ls) (sym (append_assoc h.lines (map (cost_line file) (take n costs) ++ warning_lines file x.start found) rest ∙ ap (λ ls. h.lines ++ ls) (append_assoc (map (cost_line file) (take n costs)) (warning_lines file x.start found) rest))) whole

    -- After the last mention come the attributes that are left.
    pub all_lines : (i : ℕ) (costs : List ℕ) (old mid new : List Finding) → length ms ≤ i → AppendsLines (AreFirstLines i costs) old mid → lines_of new ≡ lines_of mid ++ map (cost_line file) costs → AppendsLines (AreFileLines s b w file [] ms all) old new
    all_lines i costs old mid new past h puts = record {
      lines = h.lines ++ map (cost_line file) costs;
      are = h.are.goes (map (cost_line file) costs) (subst (λ xs. Lines (take i ms) xs costs (map (cost_line file) costs)) (sym (drop_all i ms past)) lines.AreFileLines.ended);
      is = puts ∙ ap (λ ls. ls ++ map (cost_line file) costs) h.is ∙ append_assoc (lines_of old) h.lines (map (cost_line file) costs);
    }
