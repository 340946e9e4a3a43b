use Rattle.std.proofs.Common.{◌≡◌, length, arith, ◌∙◌, ℕ, List, Option, map, ap, sym, subst, Ok, Err}
use Rattle.mh_check.specs.Checks.{FirstFault}
use Rattle.mh_check.specs.Compiling.{IsCompiled, ReportsCheckFault}
use Rattle.mh_check.specs.code.Places.{PlacesAllSentences}
use Rattle.mh_msgfile.specs.declared.messages.MsgSentence.{MsgSentence}
use Rattle.mh_msgfile.specs.declared.messages.Entry.{Entry}
use Rattle.mh_check.proofs.IsCompiled.{is_compiled, sentences_are}
use Rattle.mh_check.proofs.compiling.compile.Goals as goal

pub compiled_of-requires : goal.compiled_of-requires
compiled_of-requires c =
    let count : length c.in-Ok.places.items ≡ length c.args.table.now.states = c.in-Ok.ensures.0 in
    omega (arith, count, c.table-facts.ensures.facts.facts.ranges.few_states)

pub returns-in-Ok-copied_messages : goal.returns-in-Ok-copied_messages
returns-in-Ok-copied_messages c =
    let t = c.args.table.now in
    let places = c.in-Ok.places.items in
    let all = subst (λ (es : List Entry). PlacesAllSentences t es (Ok places)) c.as_slice.ensures c.in-Ok.ensures in
    let are = c.in-Ok-copied_messages.ensures ∙ ap (map (λ (e : Entry). e.message)) c.as_slice-2.ensures in
    subst (λ (r : List (Option (List ℕ))). IsCompiled t c.args.file.now r) (sym c.compiled_of.ensures) (is_compiled t c.args.file.now places c.in-Ok-copied_messages.messages.items are all.1 all.0)

pub returns-in-Err : goal.returns-in-Err
returns-in-Err c =
    let t = c.args.table.now in
    let told = subst (λ (es : List Entry). PlacesAllSentences t es (Err c.in-Err.fault)) c.as_slice.ensures c.in-Err.ensures in
    subst (λ (xs : List MsgSentence). ReportsCheckFault c.in-Err.fault (FirstFault t xs)) (sentences_are c.args.file.now) told
