use Rattle.mh_join_parts.proofs.joined_value.joined.Goals as goal

pub returns-in-Ok : goal.returns-in-Ok
returns-in-Ok c = record {
  tokens_are = c.in-Ok.ensures.tokens;
  starts_are = c.in-Ok.ensures.starts;
  on_error_is = c.in-Ok.ensures.on_error;
  rules_are = rw c.put_names.ensures.rules c.in_ok-rules.ensures;
}
