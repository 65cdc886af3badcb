use Rattle.std.proofs.Common.{refl, Ok, Err}
use Rattle.msq_c.proofs.words_call_exports.msq_words_shares_close.Goals as goal

pub returns-in-Ok : goal.returns-in-Ok
returns-in-Ok c = record {
  answer = Ok tt;
  code = refl;
  holds = record {
    rest = c.in-Ok.found;
    end = c.in-Ok._end;
    closes = c.in-Ok.ensures.closes;
    empty = c.in-Ok.ensures.empty;
    tells = c.written.ensures.rest;
    written = c.written.ensures.values;
  };
}

pub returns-in-Err : goal.returns-in-Err
returns-in-Err c = record {
  answer = Err c.in-Err.refusal;
  code = c.code.ensures;
  holds = record { refused = c.in-Err.ensures.refused; values = refl; rest = refl };
}
