use Rattle.std.proofs.Common.{◌≡◌, ap, refl, sym, ◌∙◌}
use Rattle.mh_grammar.specs.Text.{Text}
use Rattle.mh_join_names.specs.Names.{formal_number}
use Rattle.mh_join_names.specs.code.SymbolTables.{formals_in, meanings_in}
use Rattle.mh_join_names.proofs.Lists.{fun_ext}
use Rattle.mh_lint_faults.specs.NameFaults.{formals_at}
use Rattle.mh_lint_faults.proofs.IsContext.{alias_kept, formal_next, group_kept, head_kept, level_kept, on_error_kept, on_ok, prec_next, start_kept, token_next}
use Rattle.mh_lint_faults.proofs.name_faults.Context.fault_of.Goals as goal

pub returns-in_ok-self-in-Token-clause-context : goal.returns-in_ok-self-in-Token-clause-context
returns-in_ok-self-in-Token-clause-context c = λ before h.
    on_ok c.token_fault.result (token_next c.args.names.now.starts.keys c.args.file.now.module.now before c.args.mention.now c.args.self.now _ c.in-Token.is (c.in_ok-self-in-Token.ensures.cases ∙ c.text_of-name.ensures) h)

pub returns-in-Alias-clause-fault : goal.returns-in-Alias-clause-fault
returns-in-Alias-clause-fault c = λ before h. rw (c.in-Alias.is, ← c.text_of-name.ensures, ← h.token, ← c.as_slice.ensures) c.alias_fault.ensures

pub returns-in-Alias-clause-context : goal.returns-in-Alias-clause-context
returns-in-Alias-clause-context c = λ before h. on_ok c.alias_fault.result (alias_kept c.args.names.now.starts.keys c.args.file.now.module.now before c.args.mention.now c.args.self.now c.in-Alias.is h)

pub returns-in-Start-clause-fault : goal.returns-in-Start-clause-fault
returns-in-Start-clause-fault c = λ before h. rw (c.in-Start.is, ← c.text_of-name.ensures) c.start_fault.ensures

pub returns-in-Start-clause-context : goal.returns-in-Start-clause-context
returns-in-Start-clause-context c = λ before h. on_ok c.start_fault.result (start_kept c.args.names.now.starts.keys c.args.file.now.module.now before c.args.mention.now c.args.self.now c.in-Start.is h)

pub returns-in-Level-clause-fault : goal.returns-in-Level-clause-fault
returns-in-Level-clause-fault c = λ before h. rw c.in-Level.is c.level_fault.ensures

pub returns-in-Level-clause-context : goal.returns-in-Level-clause-context
returns-in-Level-clause-context c = λ before h. on_ok c.level_fault.result (level_kept c.args.names.now.starts.keys c.args.file.now.module.now before c.args.mention.now c.args.self.now c.in-Level.rank c.in-Level.is h)

pub returns-in-OnError-clause-fault : goal.returns-in-OnError-clause-fault
returns-in-OnError-clause-fault c = λ before h. rw c.in-OnError.is c.on_error_fault.ensures

pub returns-in-OnError-clause-context : goal.returns-in-OnError-clause-context
returns-in-OnError-clause-context c = λ before h. on_ok c.on_error_fault.result (on_error_kept c.args.names.now.starts.keys c.args.file.now.module.now before c.args.mention.now c.args.self.now c.in-OnError.rank c.in-OnError.item c.in-OnError.is h)

pub returns-in-Rule-clause-fault : goal.returns-in-Rule-clause-fault
returns-in-Rule-clause-fault c = λ before h. rw c.in-Rule.is (c.rule_fault.ensures.fault before h)

pub returns-in-Rule-clause-context : goal.returns-in-Rule-clause-context
returns-in-Rule-clause-context c = λ before h. c.rule_fault.ensures.context before c.args.mention.now c.in-Rule.is h

pub returns-in_ok-put_name-in-Formal-clause-fault : goal.returns-in_ok-put_name-in-Formal-clause-fault
returns-in_ok-put_name-in-Formal-clause-fault c = λ before h. rw (c.in-Formal.is, ← c.text_of-name.ensures, ← h.seen c.text_of-name.result.now, ← c.in_ok-put_name-in-Formal.ensures.is_new) c.duplicate_unless.ensures

pub returns-in_ok-put_name-in-Formal-clause-context : goal.returns-in_ok-put_name-in-Formal-clause-context
returns-in_ok-put_name-in-Formal-clause-context c = λ before h. on_ok c.duplicate_unless.result (formal_next c.args.names.now.starts.keys c.args.file.now.module.now before c.args.mention.now c.args.self.now _ c.in-Formal.is (rw c.text_of-name.ensures at c.in_ok-put_name-in-Formal.ensures.names) refl refl refl refl refl h)

pub returns-in-Head-clause-fault : goal.returns-in-Head-clause-fault
returns-in-Head-clause-fault c = λ before h.
    let numbers : formals_in c.args.self.now.formals ≡ formal_number (formals_at c.args.file.now.module.now before) = fun_ext (λ x. h.formals x) in
    rw (c.in-Head.is, ← numbers) c.head_fault.ensures

pub returns-in-Head-clause-context : goal.returns-in-Head-clause-context
returns-in-Head-clause-context c = λ before h. on_ok c.head_fault.result (head_kept c.args.names.now.starts.keys c.args.file.now.module.now before c.args.mention.now c.args.self.now c.in-Head.alternative c.in-Head.producer c.in-Head.is h)

pub returns-in_ok-put_key-in-Prec-clause-context : goal.returns-in_ok-put_key-in-Prec-clause-context
returns-in_ok-put_key-in-Prec-clause-context c = λ before h. on_ok c.prec_fault.result (prec_next c.args.names.now.starts.keys c.args.file.now.module.now before c.args.mention.now c.args.self.now _ c.in-Prec.alternative c.in-Prec.is c.in_ok-put_key-in-Prec.ensures.keys refl refl refl refl refl h)

pub returns-in-GroupPrec-clause-fault : goal.returns-in-GroupPrec-clause-fault
returns-in-GroupPrec-clause-fault c = λ before h. rw c.in-GroupPrec.is (c.group_prec_fault.ensures before h.precs)

pub returns-in-GroupPrec-clause-context : goal.returns-in-GroupPrec-clause-context
returns-in-GroupPrec-clause-context c = λ before h. on_ok c.group_prec_fault.result (group_kept c.args.names.now.starts.keys c.args.file.now.module.now before c.args.mention.now c.args.self.now c.in-GroupPrec.first c.in-GroupPrec.last c.in-GroupPrec.is h)
