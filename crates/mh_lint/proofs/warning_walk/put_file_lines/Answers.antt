use Rattle.std.proofs.Common.{◌≡◌, ◌+◌, get_or, refl, subst, sym}
use Rattle.mh_rules.specs.declared.modules.Module.{Module}
use Rattle.mh_lint.specs.code.MentionUses.{Checked, IsBeforeFile}
use Rattle.mh_lint.proofs.IsInFile.{enter_file, leave_file}
use Rattle.mh_lint.proofs.warning_walk.put_file_lines.Goals as goal

pub returns : goal.returns
returns c =
    let files = c.args.files.now in
    let at = c.args.at in
    let k = c.in_ok-file.file.number in
    let m = c.in_ok-file.file.module.now in
    let old = c.args.uses.now in
    let first = record old { own = c.new.result; actuals = c.new-2.result } in
    let mid = c.put_mention_lines.new.uses in
    let is : m ≡ get_or files.read.modules.items at m = subst (λ (v : Module). v ≡ get_or files.read.modules.items at v) (sym c.in_ok-file.ensures.contents) c.index.ensures in
    let number : k ≡ at + 1 = c.in_ok-file.ensures.number in
    let entered = λ (cc : Checked) (h : IsBeforeFile cc files at old). enter_file cc files at k m old first c.requires.at is number refl refl refl refl refl c.new.ensures.empty c.new-2.ensures.empty h in
    record {
      lines = λ cc h. c.in_ok-put_mention_lines.ensures.lines cc (entered cc h);
      uses = λ cc h. leave_file cc files k m first (entered cc h) at mid _ number (c.in_ok-put_mention_lines.ensures.uses cc (entered cc h)) refl refl refl refl (rw (c.len.ensures, c.len-2.ensures) at c.declarations_after-uses.ensures);
    }
