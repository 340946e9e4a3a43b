-- Lemmas on the loops over the blocks of a file: they find the first fault, or the entries of the file.
use Rattle.std.proofs.Common.{◌≡◌, ◌<◌, ℕ, suc, List, [], ◌∷◌, ◌++◌, length, drop, get_or, sym, ap, ◌∙◌, append_assoc}
use Rattle.std.specs.Prelude.{Bool, true, false, Result, Ok, Err, OnOk, is_err}
use Rattle.mh_grammar.specs.declared.types.Grammar.{Grammar}
use Rattle.mh_grammar.specs.Text.{Text}
use Rattle.mh_msgfile.specs.Sentences.{Vocabulary, vocabulary_of, sentence_in}
use Rattle.mh_msgfile.specs.code.FileSteps.{BeginsWithFault, ReadsEntries, IsFaultOfLastBlock, IsFaultOfLine}
use Rattle.mh_msgfile.specs.Lines.{AreLines, line_at}
use Rattle.mh_msgfile.specs.Messages.{message_of, MessagesFault, BadShape, fault_at, first_number, faults_of, sentences_of, faults_in, entries_in, blocks, MsgSpells, HasFault, ReportsFault}
use Rattle.mh_msgfile.specs.declared.messages.Entry.{Entry}
use Rattle.mh_msgfile.specs.declared.messages.MsgFault.{MsgFault}
use Rattle.mh_msgfile.specs.declared.messages.MsgFault.TheVariants as faults
use Rattle.std.proofs.Math.Seq.{drop-cons}

tells : (fault : MsgFault) (P Q : MessagesFault → Type 0) → ((f : MessagesFault) → P f → Q f) → ReportsFault fault P → ReportsFault fault Q
tells (faults.Shape line) P Q on told = on _ told
tells (faults.UnknownStart line name) P Q on told = on _ told
tells (faults.MissingStart line) P Q on told = on _ told
tells (faults.UnknownToken line name) P Q on told = on _ told
tells faults.Memory P Q on told = tt

-- A result that was tested to be no fault has the property of a success.
pub ok_from_test : {A E : Type 0} (r : Result A E) (b : Bool) (P : Type 0) → b ≡ is_err r → b ≡ false → OnOk r P → P
ok_from_test (Ok x) b P is passed holds = holds
ok_from_test (Err e) b P is passed holds = let told : true ≡ false = sym is ∙ passed in cc

module _ (v : Vocabulary) (lines : List Text) where
  -- The fault of the first faulty line is the first fault of the block.
  pub block_fault : (block : List ℕ) (i : ℕ) (fault : MsgFault) → i < length block → IsFaultOfLine (get_or block i 0) (sentence_in v (line_at lines (get_or block i 0))) fault → faults_of v lines (drop i block) ≡ faults_of v lines block → ReportsFault fault (BeginsWithFault (faults_of v lines block))
  block_fault block i fault lt told same =
      let n = get_or block i 0 in
      tells fault (λ f. fault_at n (sentence_in v (line_at lines n)) ≡ f ∷ []) (BeginsWithFault (faults_of v lines block))
      (λ f one. (faults_of v lines (drop (suc i) block), sym same ∙ ap (faults_of v lines) (drop-cons block i 0 lt) ∙ ap (λ l. l ++ faults_of v lines (drop (suc i) block)) one)) told

  -- The fault of a last block whose lines are all sentences: it has no message.
  pub last_shape : (block : List ℕ) (line : ℕ) → line ≡ first_number block → faults_of v lines block ≡ [] → BeginsWithFault (faults_of v lines block ++ BadShape (first_number block) ∷ []) (BadShape line)
  last_shape block line is none = ([], ap (λ (l : List MessagesFault). l ++ BadShape (first_number block) ∷ []) none ∙ ap (λ (n : ℕ). BadShape n ∷ []) (sym is))

  pub last_other : (block : List ℕ) (fault : MsgFault) → ReportsFault fault (BeginsWithFault (faults_of v lines block)) → IsFaultOfLastBlock v lines block fault
  last_other block fault told =
      tells fault (BeginsWithFault (faults_of v lines block)) (BeginsWithFault (faults_of v lines block ++ BadShape (first_number block) ∷ []))
      (λ f begins. (begins.0 ++ BadShape (first_number block) ∷ [], ap (λ (l : List MessagesFault). l ++ BadShape (first_number block) ∷ []) begins.1)) told

  -- One turn of the loop: the remaining blocks are `block` and the blocks after it.
  module _ (bs rs behind : List (List ℕ)) (block : List ℕ) (first : rs ≡ block ∷ behind) (none : faults_in v lines rs ≡ faults_in v lines bs) where
    pub loop_last_block : (fault : MsgFault) → behind ≡ [] → IsFaultOfLastBlock v lines block fault → ReportsFault fault (BeginsWithFault (faults_in v lines bs))
    loop_last_block fault last told =
        let split : rs ≡ block ∷ [] = first ∙ ap (λ (l : List (List ℕ)). block ∷ l) last in
        tells fault (BeginsWithFault (faults_of v lines block ++ BadShape (first_number block) ∷ [])) (BeginsWithFault (faults_in v lines bs))
        (λ f begins. (begins.0, sym none ∙ ap (faults_in v lines) split ∙ begins.1)) told

    module _ (message : List ℕ) (rest : List (List ℕ)) (second : behind ≡ message ∷ rest) where
      split : rs ≡ block ∷ message ∷ rest
      split = first ∙ ap (λ (l : List (List ℕ)). block ∷ l) second

      faults_are : faults_in v lines bs ≡ faults_of v lines block ++ faults_in v lines rest
      faults_are = sym none ∙ ap (faults_in v lines) split

      pub loop_fault : (fault : MsgFault) → ReportsFault fault (BeginsWithFault (faults_of v lines block)) → ReportsFault fault (BeginsWithFault (faults_in v lines bs))
      loop_fault fault told =
          tells fault (BeginsWithFault (faults_of v lines block)) (BeginsWithFault (faults_in v lines bs))
          (λ f begins. (begins.0 ++ faults_in v lines rest, faults_are ∙ ap (λ (l : List MessagesFault). l ++ faults_in v lines rest) begins.1)) told

      pub loop_no_fault : faults_of v lines block ≡ [] → faults_in v lines rest ≡ faults_in v lines bs
      loop_no_fault is = ap (λ (l : List MessagesFault). l ++ faults_in v lines rest) (sym is) ∙ sym faults_are

      pub loop_entry : (old new all : List Entry) (entry : Entry) → old ++ entries_in v lines rs ≡ all → new ≡ old ++ entry ∷ [] → entry ≡ record { sentences = sentences_of v lines block; message = message_of lines message } → new ++ entries_in v lines rest ≡ all
      loop_entry old new all entry so_far added is =
          ap (λ (es : List Entry). es ++ entries_in v lines rest) added ∙ append_assoc old (entry ∷ []) (entries_in v lines rest) ∙ ap (λ (e : Entry). old ++ e ∷ entries_in v lines rest) is
          ∙ ap (λ (l : List (List ℕ)). old ++ entries_in v lines l) (sym split) ∙ so_far

  -- The entries or the fault, by the names of the grammar g.
  module _ (g : Grammar) (bytes : Text) (are : AreLines bytes lines) (words : v ≡ vocabulary_of g) where
    pub spelled_by : (entries : List Entry) → ReadsEntries v lines (blocks lines) (Ok entries) → MsgSpells g bytes (record { lines = lines; entries = entries })
    spelled_by entries read = record {
      lines = are;
      no_faults = ap (λ (u : Vocabulary). faults_in u lines (blocks lines)) (sym words) ∙ read.0;
      entries = read.1 ∙ ap (λ (u : Vocabulary). entries_in u lines (blocks lines)) words;
    }

    pub fault_by : (fault : MsgFault) → ReadsEntries v lines (blocks lines) (Err fault) → ReportsFault fault (HasFault g bytes)
    fault_by fault read =
        tells fault (BeginsWithFault (faults_in v lines (blocks lines))) (HasFault g bytes)
        (λ f begins. record { lines = lines; are_lines = are; later = begins.0; first = ap (λ (u : Vocabulary). faults_in u lines (blocks lines)) (sym words) ∙ begins.1 }) read
