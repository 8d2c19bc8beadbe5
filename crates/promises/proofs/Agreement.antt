-- The invariant in other words: what stands agrees with its history, and what agrees stands. Assumes nothing.
use Prim.Native.Nat.{ℕ, ◌+◌, ◌≤◌, ◌<◌}
use native.Mathlib.Omega.{arith}
use mathlib.Core.Path.{◌≡◌, refl, sym, subst, ◌∙◌}
use mathlib.Core.Logic.{◌⊎◌, inl, inr, ⊎_elim}
use mathlib.Core.Bool.{true, false}
use mathlib.Core.List.Memᴰ
use mathlib.Core.List.{List, ◌++◌}
use lib.ListN.{length, length-append}
use Rattle.rules.specs.Table.{start}
use Rattle.rules.proofs.Table.{row_of_zeros, zeros_of_row}
use Rattle.rules.proofs.Grant.{granules_enough}
use Rattle.promises.specs.History.{Block, has_byte, History, latest, held}
use Rattle.promises.specs.Rows.{past, Apart, block_of, in_use}
use Rattle.promises.specs.Agreement.{ShapedAs, SeparatedIn, RowsAre, AgreesWith}
use Rattle.promises.proofs.Blocks.{has_byte_true, has_byte_not}
use Rattle.promises.proofs.Laid.{ends, Laid}
use Rattle.promises.proofs.Standing.{in_use_all, in_use_fewer}
use Rattle.promises.proofs.Queue.{queue_row, queue_block}
use Rattle.promises.proofs.Drawn.{shadow_drawn, drawn_laid}
use Rattle.promises.proofs.Invariant.{Stands, held_count}

-- ---- held blocks stay a redzone apart

-- granules apart are bytes apart
rows_apart : (R : ℕ) (table : List ℕ) (i j : ℕ)
    → (ends table i + R ≤ start table j) ⊎ (ends table j + R ≤ start table i)
    → Apart R (block_of table i) (block_of table j)
unfolding past
rows_apart R table i j =
    ⊎_elim {C = Apart R (block_of table i) (block_of table j)} (λ left. inl (omega arith)) (λ right. inr (omega arith))

-- and back
apart_rows : (R : ℕ) (table : List ℕ) (i j : ℕ) → Apart R (block_of table i) (block_of table j)
    → (ends table i + R ≤ start table j) ⊎ (ends table j + R ≤ start table i)
unfolding past
apart_rows R table i j =
    ⊎_elim {C = (ends table i + R ≤ start table j) ⊎ (ends table j + R ≤ start table i)}
    (λ left. inl (omega arith)) (λ right. inr (omega arith))

-- two blocks that are apart share no byte
pub apart_bytes : (R : ℕ) (x y : Block) → Apart R x y → (b : ℕ) → has_byte x b ≡ true → has_byte y b ≡ false
unfolding past
apart_bytes R x y apart b has =
    let range : (x.address ≤ b) × (b < x.address + x.size) = has_byte_true x b has in
    has_byte_not y b
    (λ from below.
    ⊎_elim {C = ⊥}
    (λ left. omega (arith, range.1, granules_enough x.size))
    (λ right. omega (arith, range.0, granules_enough y.size))
    apart)

separated : {S R : ℕ} {shadow table : List ℕ} → Laid S R shadow table → SeparatedIn S R table
unfolding past
separated {R = R} {table = table} laid = record {
  apart = λ i j h h' differ. rows_apart R table i j (laid.apart i j h h' differ);
  inside = λ i h. record { low = omega (arith, laid.low i h); high = omega (arith, laid.high i h) };
}

-- ---- what stands agrees

module _ {S R Q : ℕ} {shadow table : List ℕ} {h : History} (stands : Stands S R Q shadow table h) where
  shaped : ShapedAs S shadow table
  shaped =
      let laid = stands.standing.laid in
      let queue = stands.queue in
      record {
        states = laid.states;
        zeros = λ i below is. row_of_zeros table i (laid.zeros i below is);
        sized = laid.sized;
        live_turn = laid.live_turn;
        turns = λ i below is. ((queue.order i below is).0, omega (arith, (queue.order i below is).1, queue.count));
        every_turn = λ t above upto. queue.every_turn t above (omega (arith, queue.count));
        once = queue.once;
        no_overlap = λ i j h h' differ. apart_bytes R _ _ ((separated laid).apart i j h h' differ);
        shadow_is = shadow_drawn laid;
      }

  -- the rows are the blocks of the history
  rows_are : RowsAre table h.live (latest R Q h.released)
  unfolding held
  rows_are =
      let lives = stands.standing.lives in
      let blocks : List Block = latest R Q h.released in
      let count : length (h.live ++ blocks) ≡ in_use table = held_count stands in
      record {
        live_rows = λ x. (lives.row x, λ row. Memᴰ.cast (sym row.3) (lives.listed row.0 row.1 row.2));
        live_once = lives.distinct;
        quarantined_rows = λ x. (
          queue_row R table blocks stands.queue x,
          λ row. Memᴰ.cast (sym row.3) (queue_block R table blocks stands.queue row.0 row.1 row.2),
        );
        count = count;
        full = (
          λ e i below is. absurd (omega (arith, in_use_fewer table i below is)),
          λ none_empty. count ∙ in_use_all table none_empty,
        );
      }

  pub stands_agree : AgreesWith S R Q h shadow table
  stands_agree =
      let queue = stands.queue in
      record {
        shaped = shaped;
        separated = separated stands.standing.laid;
        rows_are = rows_are;
        quarantined = record { count = queue.count; weighed = queue.weighed; order = queue.order };
      }

-- ---- what agrees stands

pub agrees_stand : {S R Q : ℕ} {shadow table : List ℕ} {h : History} → 0 < R → AgreesWith S R Q h shadow table
    → Stands S R Q shadow table h
unfolding past
agrees_stand {S} {R} {Q} {shadow} {table} {h} above agrees =
    let shape = agrees.shaped in
    let apart = agrees.separated in
    let rows_are = agrees.rows_are in
    let queue = agrees.quarantined in
    record {
      above = above;
      standing = record {
        laid =
            subst (λ s. Laid S R s table) (sym shape.shadow_is)
            (drawn_laid S R
            (λ i own. omega (arith, (apart.inside i own).high))
            (λ i j own own' differ. apart_rows R table i j (apart.apart i j own own' differ))
            shape.states (λ i below is. zeros_of_row table i (shape.zeros i below is)) shape.live_turn
            shape.sized
            (λ i own. omega (arith, (apart.inside i own).low)));
        lives = record {
          row = λ x m. (rows_are.live_rows x).0 m;
          listed = λ i below is. (rows_are.live_rows (block_of table i)).1 (i, below, is, refl);
          distinct = rows_are.live_once;
        };
        used = omega (arith, rows_are.count, length-append h.live (latest R Q h.released), queue.count);
      };
      queue = record {
        count = queue.count;
        weighed = queue.weighed;
        order = queue.order;
        every_turn = λ t from upto. shape.every_turn t from (omega (arith, queue.count));
        once = shape.once;
      };
    }
