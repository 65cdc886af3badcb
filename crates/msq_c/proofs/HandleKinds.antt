-- The kinds of handles: a seat of a queue of numbers, a share, one of a queue of three words, and a seat of three words.
use Rattle.std.proofs.Common.{refl, ap}
use Rattle.std.specs.Prelude.{Bool}
use Rattle.msq_c.specs.WordRows.{three_row, row_of}
use Rattle.msq_c.proofs.HandleWalks.{Kind, held}
use Rattle.msq_c.specs.contracts.seat_blocks.SeatBlock.{the_row as seat_row}
use Rattle.msq_c.specs.contracts.handles.Handle as seat_handle
use Rattle.msq_c.specs.contracts.handles.MsqSeat as seat_slot
use Rattle.msq_c.specs.Blocks.{numbers}
use Rattle.msq_c.specs.WordsQueues.{words as words_ghosts}
use Rattle.history.specs.contracts.operations.Body as body
use Rattle.msq_c.specs.ShareRows.{numbers_row as share_row, words_row as words_share_row, numbers_queue, numbers_seat, words_queue, words_seat}
use Rattle.msq_c.specs.contracts.share_handles.ShareHandle as share_handle
use Rattle.msq_c.specs.contracts.share_handles.MsqShare as share_slot
use Rattle.msq_c.specs.contracts.words_share_handles.WordsShareHandle as words_share_handle
use Rattle.msq_c.specs.contracts.words_share_handles.MsqWordsShare as words_share_slot
use Rattle.msq_c.specs.contracts.word_handles.WordHandle as three_handle
use Rattle.msq_c.specs.contracts.word_handles.MsqWordsSeat as three_slot
use denote.Param.Send.{IsSend, sendable}
use denote.RattleType.{RattleType}
use Rattle.node_arena.specs.contracts.seats.Seat as seat
use Rattle.node_arena.proofs.seats.Seat.TheSendSync.{the_send as seat_send}
use Rattle.picked.specs.contracts.kind_values.AnyValues as any
use Rattle.picked.specs.contracts.kind_values.AnyValuesCarrier.TheImpl as carrier
use Rattle.picked.proofs.kind_values.AnyValues.TheSendSync.{the_send as queue_send, the_sync as queue_sync}
use Rattle.msq_c.specs.contracts.words.MsqWords as words
use Rattle.msq_c.proofs.words.MsqWords.TheSendSync.{the_send as words_send}
use Rattle.msq_c.proofs.word_blocks.WordsBlock.TheSendSync as own
use Rattle.msq_c.proofs.share_blocks.ShareBlock.TheSendSync as share
use Rattle.carriers.proofs.numbered.Numbers.TheSendSync as numbers_s
use Rattle.picked.proofs.either.EitherQueue.TheSendSync as either_q
use Rattle.picked.proofs.either.EitherSeat.TheSendSync as either_s
use Rattle.picked.proofs.picked.PickedQueue.TheSendSync as picked_q
use Rattle.ring_queue.proofs.queue.RingQueue.TheSendSync as ring_q
use Rattle.ring_queue.proofs.seats.Seat.TheSendSync as ring_s
use Rattle.ring_values.proofs.queue.RingValues.TheSendSync as ring_v

abbrev pub seats : Kind
seats = record {
  block = seat_row;
  slot = seat_slot.the_row;
  names = (seat_slot.struct.name, seat_handle.struct.name);
  single = tt;
  full = λ d. d.full;
  at = λ d. d.handle.at;
  value = λ d. d.handle.value;
  make = λ p f x. record { handle = record { at = p; full = f; value = x }; full = f; tells = refl };
  made = λ p f x. (refl, (refl, refl));
  owned = λ d. ap (λ (g : Bool). held seat_row d.handle.at g d.full d.handle.value) d.tells;
  rest = λ d. (tt, tt);
  silent = λ d f. refl;
}

abbrev pub shares : Kind
shares = record {
  block = share_row;
  slot = share_slot.the_row;
  names = (share_slot.struct.name, share_handle.struct.name);
  single = tt;
  full = λ d. d.full;
  at = λ d. d.handle.at;
  value = λ d. d.handle.value;
  make = λ p f x. record { handle = record { at = p; full = f; value = x }; full = f; tells = refl };
  made = λ p f x. (refl, (refl, refl));
  owned = λ d. ap (λ (g : Bool). held share_row d.handle.at g d.full d.handle.value) d.tells;
  rest = λ d. (tt, tt);
  silent = λ d f. refl;
}

abbrev pub words_shares : Kind
words_shares = record {
  block = words_share_row;
  slot = words_share_slot.the_row;
  names = (words_share_slot.struct.name, words_share_handle.struct.name);
  single = tt;
  full = λ d. d.full;
  at = λ d. d.handle.at;
  value = λ d. d.handle.value;
  make = λ p f x. record { handle = record { at = p; full = f; value = x }; full = f; tells = refl };
  made = λ p f x. (refl, (refl, refl));
  owned = λ d. ap (λ (g : Bool). held words_share_row d.handle.at g d.full d.handle.value) d.tells;
  rest = λ d. (tt, tt);
  silent = λ d f. refl;
}

abbrev pub threes : Kind
threes = record {
  block = three_row;
  slot = three_slot.the_row;
  names = (three_slot.struct.name, three_handle.struct.name);
  single = tt;
  full = λ d. d.full;
  at = λ d. d.handle.at;
  value = λ d. d.handle.value;
  make = λ p f x. record { handle = record { at = p; full = f; value = x }; full = f; tells = refl };
  made = λ p f x. (refl, (refl, refl));
  owned = λ d. ap (λ (g : Bool). held three_row d.handle.at g d.full d.handle.value) d.tells;
  rest = λ d. (tt, tt);
  silent = λ d f. refl;
}

-- a seat of values may go to another thread where these may
own_send : (W : RattleType) → IsSend W → IsSend (row_of W)
own_send W s = own.the_send (any.the_row W) W (seat.the_row W) (carrier.ghosts W) (queue_send W s) (seat_send W s) (queue_sync W s)

pub three_send : IsSend three_row
three_send = own_send words.the_row words_send

-- a share of a queue may go to another thread
pub numbers_send : IsSend share_row
numbers_send = share.the_send numbers_queue body.the_row numbers_seat numbers
    (search (sendable, numbers_s.the_send, numbers_s.the_sync, either_q.the_send, either_q.the_sync, either_s.the_send, picked_q.the_send, picked_q.the_sync, ring_q.the_send, ring_q.the_sync, ring_s.the_send, seat_send) depth 20)
    (search (sendable, numbers_s.the_send, numbers_s.the_sync, either_q.the_send, either_q.the_sync, either_s.the_send, picked_q.the_send, picked_q.the_sync, ring_q.the_send, ring_q.the_sync, ring_s.the_send, seat_send) depth 20)
    (search (sendable, numbers_s.the_send, numbers_s.the_sync, either_q.the_send, either_q.the_sync, either_s.the_send, picked_q.the_send, picked_q.the_sync, ring_q.the_send, ring_q.the_sync, ring_s.the_send, seat_send) depth 20)

pub words_share_send : IsSend words_share_row
words_share_send = share.the_send words_queue words.the_row words_seat words_ghosts
    (search (sendable, either_q.the_send, either_q.the_sync, either_s.the_send, queue_send, queue_sync, ring_v.the_send, ring_v.the_sync, ring_s.the_send, seat_send, words_send) depth 20)
    (search (sendable, either_q.the_send, either_q.the_sync, either_s.the_send, queue_send, queue_sync, ring_v.the_send, ring_v.the_sync, ring_s.the_send, seat_send, words_send) depth 20)
    (search (sendable, either_q.the_send, either_q.the_sync, either_s.the_send, queue_send, queue_sync, ring_v.the_send, ring_v.the_sync, ring_s.the_send, seat_send, words_send) depth 20)
