-- The lines for the faults of names, with one more mention.
use Rattle.std.proofs.Common.{◌≡◌, ℕ, ◌+◌, ◌<◌, ◌≤◌, List, [], ◌∷◌, ◌++◌, take, drop, length, get_or, map, refl, sym, ap, ◌∙◌, append_assoc}
use Rattle.std.proofs.lemmas.List.{append-nil, drop_all, map-append}
use Rattle.mh_grammar.proofs.Lists.{drop_step, take_step}
use Rattle.mh_grammar.specs.Text.{Text}
use Rattle.mh_rules.specs.declared.modules.Module.{Module}
use Rattle.mh_front.specs.Texts.{join_text}
use Rattle.mh_join_names.specs.Faults.{Meanings}
use Rattle.mh_join_names.specs.declared.fault.JoinFault.{JoinFault}
use Rattle.mh_reader_places.specs.declared.mentions.Mention.{Mention}
use Rattle.mh_lint_findings.specs.Lines.{Line, line, line_of, lines_of}
use Rattle.mh_lint_findings.specs.declared.findings.Finding.{Finding}
use Rattle.mh_lint_findings.specs.declared.findings.Position.TheVariants.{InFile}
use Rattle.mh_lint_faults.specs.FaultLines.{fault_lines}
use Rattle.mh_lint_faults.specs.NameFaults.{faults_from, faults_in_role}

-- The line of a finding is appended.
pub finding_written : (old new : List Finding) (f : Finding) (text : Text) → f.text ≡ text → new ≡ old ++ f ∷ [] → lines_of new ≡ lines_of old ++ line f.at text ∷ []
finding_written old new f text is e = ap lines_of e ∙ map-append line_of old (f ∷ []) ∙ ap (λ (t : Text). lines_of old ++ line f.at t ∷ []) is

-- The lines for faults at one position.
abbrev pub lines_at : ℕ → ℕ → List JoinFault → List Line
lines_at file start faults = map (λ (f : JoinFault). line (InFile file start) (join_text f)) faults

placed_lines : (file start : ℕ) (faults : List JoinFault) → fault_lines file (map (λ (e : JoinFault). (start, e)) faults) ≡ lines_at file start faults
placed_lines file start [] = refl
placed_lines file start (e ∷ es) = ap (λ ls. line (InFile file start) (join_text e) ∷ ls) (placed_lines file start es)

module _ (w : Meanings) (k : ℕ) (m : Module) (file : ℕ) (xs : List Mention) where
  abbrev pub lines_left : ℕ → List Line
  lines_left i = fault_lines file (faults_from w k m (take i xs) (drop i xs))

  lines_step : (i : ℕ) (x : Mention) → i < length xs → x ≡ get_or xs i x → lines_left i ≡ lines_at file x.start (faults_in_role w k m (take i xs) x.name x.role) ++ lines_left (i + 1)
  lines_step i x l at =
      ap (λ ys. fault_lines file (faults_from w k m (take i xs) ys)) (drop_step xs i x l at)
      ∙ map-append _ (map (λ (e : JoinFault). (x.start, e)) (faults_in_role w k m (take i xs) x.name x.role)) (faults_from w k m (take i xs ++ x ∷ []) (drop (i + 1) xs))
      ∙ ap (λ ls. ls ++ fault_lines file (faults_from w k m (take i xs ++ x ∷ []) (drop (i + 1) xs))) (placed_lines file x.start (faults_in_role w k m (take i xs) x.name x.role))
      ∙ ap (λ ys. lines_at file x.start (faults_in_role w k m (take i xs) x.name x.role) ++ fault_lines file (faults_from w k m ys (drop (i + 1) xs))) (sym (take_step xs i x l at))

  -- What is written and what is left are the whole.
  pub fault_written : (i : ℕ) (x : Mention) (found : List JoinFault) (all now new : List Line) → i < length xs → x ≡ get_or xs i x → found ≡ faults_in_role w k m (take i xs) x.name x.role → now ++ lines_left i ≡ all → new ≡ now ++ lines_at file x.start found → new ++ lines_left (i + 1) ≡ all
  fault_written i x found all now new l at is whole e =
      ap (λ ls. ls ++ lines_left (i + 1)) (e ∙ ap (λ fs. now ++ lines_at file x.start fs) is)
      ∙ append_assoc now (lines_at file x.start (faults_in_role w k m (take i xs) x.name x.role)) (lines_left (i + 1))
      ∙ ap (λ ls. now ++ ls) (sym (lines_step i x l at)) ∙ whole

  pub faults_end : (i : ℕ) (all now : List Line) → length xs ≤ i → now ++ lines_left i ≡ all → now ≡ all
  faults_end i all now l whole = sym (append-nil now) ∙ ap (λ ys. now ++ fault_lines file (faults_from w k m (take i xs) ys)) (sym (drop_all i xs l)) ∙ whole
