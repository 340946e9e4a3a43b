-- Proves that bytes either spell exactly one messages file or have exactly one first fault.
use Rattle.std.proofs.Common.{◌≡◌, ◌⊎◌, List, [], ◌∷◌, map, refl, sym, ◌∙◌, ap, inl, inr}
use Rattle.bstr.specs.Text.{lines_of, without_terminator}
use Rattle.mh_grammar.specs.declared.types.Grammar.{Grammar}
use Rattle.mh_grammar.specs.Text.{Text}
use Rattle.mh_msgfile.specs.Sentences.{vocabulary_of}
use Rattle.mh_msgfile.specs.Messages.{MessagesFault, faults_in, entries_in, blocks, MsgSpells, HasFault}
use Rattle.mh_msgfile.specs.declared.messages.MsgFile.{MsgFile}
use Rattle.mh_msgfile.proofs.AreLines.{lines_once, are_lines}

module _ (g : Grammar) (bytes : Text) where
  pub spelled_once : (a b : MsgFile) → MsgSpells g bytes a → MsgSpells g bytes b → a ≡ b
  spelled_once a b p q =
      let lines : a.lines ≡ b.lines = lines_once bytes a.lines p.lines ∙ sym (lines_once bytes b.lines q.lines) in
      let entries : a.entries ≡ b.entries = p.entries ∙ ap (λ (l : List Text). entries_in (vocabulary_of g) l (blocks l)) lines ∙ sym q.entries in
      λ i. record { lines = lines i; entries = entries i }

  pub fault_once : (a b : MessagesFault) → HasFault g bytes a → HasFault g bytes b → a ≡ b
  fault_once a b p q =
      let lines : p.lines ≡ q.lines = lines_once bytes p.lines p.are_lines ∙ sym (lines_once bytes q.lines q.are_lines) in
      let both : a ∷ p.later ≡ b ∷ q.later = sym p.first ∙ ap (λ (l : List Text). faults_in (vocabulary_of g) l (blocks l)) lines ∙ q.first in cc

  pub spelled_has_no_fault : (a : MsgFile) (f : MessagesFault) → MsgSpells g bytes a → HasFault g bytes f → ⊥
  spelled_has_no_fault a f p q =
      let lines : a.lines ≡ q.lines = lines_once bytes a.lines p.lines ∙ sym (lines_once bytes q.lines q.are_lines) in
      let both : [] ≡ f ∷ q.later = sym p.no_faults ∙ ap (λ (l : List Text). faults_in (vocabulary_of g) l (blocks l)) lines ∙ q.first in cc

  abbrev all_lines : List Text
  all_lines = map without_terminator (lines_of bytes)

  found : (fs : List MessagesFault) → faults_in (vocabulary_of g) all_lines (blocks all_lines) ≡ fs → ((file : MsgFile) × MsgSpells g bytes file) ⊎ ((f : MessagesFault) × HasFault g bytes f)
  found [] is = inl (record { lines = all_lines; entries = entries_in (vocabulary_of g) all_lines (blocks all_lines) }, record { lines = are_lines bytes; no_faults = is; entries = refl })
  found (f ∷ later) is = inr (f, record { lines = all_lines; are_lines = are_lines bytes; later = later; first = is })

  pub spelled_or_not : ((file : MsgFile) × MsgSpells g bytes file) ⊎ ((f : MessagesFault) × HasFault g bytes f)
  spelled_or_not = found (faults_in (vocabulary_of g) all_lines (blocks all_lines)) refl
