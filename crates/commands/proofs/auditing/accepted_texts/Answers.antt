use Rattle.commands.proofs.auditing.accepted_texts.Goals as goal

pub returns : goal.returns
returns c = record {
  answer = c.audited_answer.result.now;
  value = c.audited_answer.ensures;
  text = c.in_ok-render.ensures;
  line = c.in_ok-accepted_text.ensures;
}
