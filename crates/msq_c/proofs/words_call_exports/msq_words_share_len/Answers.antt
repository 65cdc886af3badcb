use Rattle.std.proofs.Common.{refl, Ok, Err}
use Rattle.msq_c.proofs.words_call_exports.msq_words_share_len.Goals as goal

pub returns-in-Ok : goal.returns-in-Ok
returns-in-Ok c = record {
  answer = Ok tt;
  code = refl;
  holds = record { full = c.len.ensures.full; queue = c.len.ensures.queue; written = c.in-Ok.ensures.room; refused = tt };
}

pub returns-in-Err : goal.returns-in-Err
returns-in-Err c =
    let refused = c.in-Err.ensures.refused in record {
      answer = Err c.in-Err.refusal;
      code = c.code.ensures;
      holds = record {
        full = c.len.ensures.full;
        queue = c.len.ensures.queue;
        written = tt;
        refused = (refused.0, refused.1, refused.2, refl);
      };
    }
