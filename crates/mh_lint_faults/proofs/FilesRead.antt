-- The files that are read, with one more file.
use Rattle.std.proofs.Common.{◌≡◌, ℕ, ◌+◌, ◌<◌, Bool, true, false, List, [], ◌∷◌, ◌++◌, take, length, get_or, Result, Ok, Err, sym, ap, subst, ◌∙◌, arith}
use Rattle.std.specs.Global.{Vec}
use Rattle.std.specs.List.{All, enumerate_from}
use Rattle.std.specs.Prelude.{◌==◌, vec_len}
use Rattle.std.proofs.lemmas.List.{append-nil, map-append, nil_from_length}
use Rattle.std.proofs.lemmas.List.Elements.{All-nil, All-push}
use Rattle.std.proofs.lemmas.Map.Views.{exact_unsigned_eq}
use Rattle.mh_grammar.proofs.Lists.{nil_parts, take_step, zip_push}
use Rattle.mh_join_names.proofs.Lists.{enumerate-push, length-take_in}
use Rattle.mh_rules.specs.Ready.{IsModuleReady}
use Rattle.mh_lex.specs.declared.kinds.PlacedFault.{PlacedFault}
use Rattle.mh_lex.specs.declared.kinds.PlacedFault.TheVariants as place_faults
use Rattle.mh_reader_parser.specs.Faults.{IsSyntaxPlace}
use Rattle.mh_reader_places.specs.Places.{ReadsPlaced, ReportsSyntaxPlace}
use Rattle.mh_reader_places.specs.declared.reading.PlacedModule.{PlacedModule}
use Rattle.mh_lint_findings.proofs.AreInOrder.{in_order_more}
use Rattle.mh_lint_findings.specs.Lines.{Line, lines_of}
use Rattle.mh_lint_findings.specs.LinesInOrder.{AreInOrder}
use Rattle.mh_lint_findings.specs.LinesInOrder as order
use Rattle.mh_lint_findings.specs.declared.findings.Finding.{Finding}
use Rattle.mh_lint_findings.specs.declared.findings.GrammarFile.{GrammarFile}
use Rattle.mh_lint_faults.specs.FaultLines.{AreSyntaxLines}
use Rattle.mh_lint_faults.specs.FaultLines as faults
use Rattle.mh_lint_faults.specs.Stages.{AreRead, modules_of}
use Rattle.mh_lint_faults.specs.code.ReadFiles.{AreFilesRead, IsSplit, ReadsFile}
use Rattle.mh_lint_faults.specs.code.ReadFiles as files
use Rattle.mh_lint_faults.specs.declared.reading.ReadFiles.{ReadFiles}

-- The files that are split, with one more file.
pub split_more : (found : List PlacedModule) (placed : PlacedModule) (old new : ReadFiles) → new.modules.items ≡ old.modules.items ++ placed.module ∷ [] → new.mentions.items ≡ old.mentions.items ++ placed.mentions ∷ [] → new.bad_costs.items ≡ old.bad_costs.items ++ placed.bad_costs ∷ [] → IsSplit found old → IsSplit (found ++ placed ∷ []) new
split_more found placed old new modules mentions costs h = record {
  modules = modules ∙ ap (λ xs. xs ++ placed.module ∷ []) h.modules ∙ sym (map-append (λ (p : PlacedModule). p.module) found (placed ∷ []));
  mentions = mentions ∙ ap (λ xs. xs ++ placed.mentions ∷ []) h.mentions ∙ sym (map-append (λ (p : PlacedModule). p.mentions) found (placed ∷ []));
  bad_costs = costs ∙ ap (λ xs. xs ++ placed.bad_costs ∷ []) h.bad_costs ∙ sym (map-append (λ (p : PlacedModule). p.bad_costs) found (placed ∷ []));
}

-- No file is read.
pub none_read : (read : ReadFiles) (findings : List Finding) → IsSplit [] read → findings ≡ [] → AreFilesRead [] read findings
none_read read findings split none = record {
  lines = subst (λ fs. AreInOrder AreSyntaxLines [] (lines_of fs)) (sym none) order.AreInOrder.none;
  spelled = λ e. record { found = []; are_read = tt; ready = All-nil IsModuleReady; split = split };
}

-- The files are numbered.
numbered : (xs : List GrammarFile) (i : ℕ) (x : GrammarFile) → i < length xs → x ≡ get_or xs i x → enumerate_from 0 (take (i + 1) xs) ≡ enumerate_from 0 (take i xs) ++ (i, x) ∷ []
numbered xs i x l at =
    ap (enumerate_from 0) (take_step xs i x l at) ∙ enumerate-push 0 (take i xs) x
    ∙ ap (λ k. enumerate_from 0 (take i xs) ++ (k, x) ∷ []) (let e : 0 + length (take i xs) ≡ i = omega (arith, length-take_in xs i l) in e)

-- No finding is left if a line was added.
no_lines : (xs : List Finding) (old : List Line) (x : Line) → xs ≡ [] → lines_of xs ≡ old ++ x ∷ [] → ⊥
no_lines xs old x none e = let parts = nil_parts old (x ∷ []) (sym e ∙ ap lines_of none) in let bad = parts.1 in cc

-- One more file is read.
pub files_step : (xs : List GrammarFile) (i : ℕ) (x : GrammarFile) (old new : ReadFiles) (before after : List Finding) → i < length xs → x ≡ get_or xs i x → AreFilesRead (take i xs) old before → ReadsFile i x old before new after → AreFilesRead (take (i + 1) xs) new after
files_step xs i x old new before after l at h (files.ReadsFile.spelled placed reads ready splits same) = record {
  lines =
      let all = in_order_more AreSyntaxLines (enumerate_from 0 (take i xs)) (i, x) (lines_of before) [] h.lines (faults.AreSyntaxLines.spelled placed reads) in
      subst (λ es. AreInOrder AreSyntaxLines es (lines_of after)) (sym (numbered xs i x l at))
      (subst (λ ls. AreInOrder AreSyntaxLines (enumerate_from 0 (take i xs) ++ (i, x) ∷ []) ls) (append-nil (lines_of before) ∙ ap lines_of (sym same)) all);
  spelled = λ none.
      (let old_read = h.spelled (sym same ∙ none) in
      record {
        found = old_read.found ++ placed ∷ [];
        are_read = subst (λ fs. AreRead fs (old_read.found ++ placed ∷ [])) (sym (take_step xs i x l at)) (zip_push (λ (f : GrammarFile) (p : PlacedModule). ReadsPlaced f.bytes p) (take i xs) old_read.found x placed old_read.are_read reads);
        ready = subst (All IsModuleReady) (sym (map-append (λ (p : PlacedModule). p.module) old_read.found (placed ∷ []))) (All-push IsModuleReady (modules_of old_read.found) placed.module old_read.ready ready);
        split = splits old_read.found old_read.split;
      });
}
files_step xs i x old new before after l at h (files.ReadsFile.faulty start place is) = record {
  lines =
      let all = in_order_more AreSyntaxLines (enumerate_from 0 (take i xs)) (i, x) (lines_of before) (_ ∷ []) h.lines (faults.AreSyntaxLines.faulty start place) in
      subst (λ es. AreInOrder AreSyntaxLines es (lines_of after)) (sym (numbered xs i x l at))
      (subst (λ ls. AreInOrder AreSyntaxLines (enumerate_from 0 (take i xs) ++ (i, x) ∷ []) ls) (sym is) all);
  spelled = λ none. absurd (no_lines after (lines_of before) _ none is);
}

-- The position of a syntax fault that was reported.
pub reported : (bytes : List ℕ) (r : Result PlacedModule PlacedFault) (f : PlacedFault) (place : ℕ) → r ≡ Err f → f ≡ place_faults.Syntax place → ReportsSyntaxPlace bytes r → IsSyntaxPlace bytes place
reported bytes (Ok found) f place e g h = cc
reported bytes (Err place_faults.Memory) f place e g h = cc
reported bytes (Err (place_faults.Syntax start)) f place e g h = let same : start ≡ place = cc in subst (IsSyntaxPlace bytes) same h.0

-- All files are read.
pub all_read : (xs : List GrammarFile) (n : ℕ) (read : ReadFiles) (findings : List Finding) → take n xs ≡ xs → AreFilesRead (take n xs) read findings → AreFilesRead xs read findings
all_read xs n read findings all h = subst (λ fs. AreFilesRead fs read findings) all h

-- ---- The list of findings.

-- If the test of an empty list is true, there is no finding.
pub no_finding : (v : Vec Finding) (b : Bool) → b ≡ (vec_len v == 0) → b ≡ true → v.items ≡ []
no_finding v b e f = nil_from_length v.items (omega (arith, v.ok.0, exact_unsigned_eq (vec_len v) 0 (sym e ∙ f)))

-- If the test is false, there is one.
pub some_finding : (v : Vec Finding) (b : Bool) → b ≡ (vec_len v == 0) → b ≡ false → v.items ≡ [] → ⊥
some_finding v b e f none =
    let count : vec_len v ≡ 0 = omega (arith, v.ok.0, ap length none) in
    let bad : true ≡ false = sym (ap (λ n. n == 0) count) ∙ sym e ∙ f in
    cc
