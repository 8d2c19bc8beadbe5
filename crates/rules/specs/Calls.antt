-- The calls: an opening, the session check behind 24, the direct calls, and a feed into a lent room.
use Rattle.std.specs.Prelude.{ℕ, ◌-◌, ◌*◌, ◌/◌, ◌%◌, ◌≤◌, ◌≡◌, Bool, true, false, ◌&&◌, List, length, take, replicate}
use Rattle.std.specs.Prelude.{eqb, leb}
use Rattle.std.specs.Prelude.{Ok, Err}
use Rattle.rules.specs.declared.CallRefusal.TheVariants.{BadSession}
use Rattle.rules.specs.declared.OpeningRefusal.TheVariants.{BadShadowLength, BadRedzone, BadTableLength}
use Rattle.rules.specs.declared.Session.{Session}
use Rattle.rules.specs.declared.Opened.{Opened}
use Rattle.rules.specs.declared.Fed.{Fed}
use Rattle.rules.specs.Limits.{between, least_granules, most_granules, least_rows, most_rows, row_numbers}
use Rattle.rules.specs.Limits.{least_redzone, most_redzone, frame_digits, too_long, redzone_byte}
use Rattle.rules.specs.Answers.{CallAnswer, OpeningAnswer, opening_status, call_status}
use Rattle.rules.specs.Frames.{Asked}
use Rattle.rules.specs.Lowest.{all_equal, AllEqual}
use Rattle.rules.specs.Put.{put}
use Rattle.rules.specs.Grant.{Acted, grant}
use Rattle.rules.specs.Release.{Pool, release}
use Rattle.rules.specs.Feed.{Engine, Ran, no_bytes, run, taken, State}
use Rattle.rules.specs.Watcher.{access, pool_of, watcher}

-- ---- opening

-- a closed session is all zeros
abbrev pub closed : Session
closed = record { granules = 0; rows = 0; redzone = 0; quarantine = 0; unfinished = 0; line = no_bytes }

abbrev pub fresh : ℕ → ℕ → ℕ → ℕ → Session
fresh S rows R Q = record { granules = S; rows = rows; redzone = R; quarantine = Q; unfinished = 0; line = no_bytes }

-- a table length is 4 to 4,096 and a multiple of 4
unfoldable pub table_length : ℕ → Bool
table_length n = between (row_numbers * least_rows) (row_numbers * most_rows) n && eqb (n % row_numbers) 0

-- what an opening hands back, and the lent buffers after it
pub record OpenedWith : Type 0 where
  pub given : Opened
  pub shadow : List ℕ
  pub table : List ℕ

abbrev pub not_opened : OpeningAnswer → List ℕ → List ℕ → OpenedWith
not_opened answer shadow table = record {
  given = record { session = closed; status = opening_status answer };
  shadow = shadow;
  table = table;
}

-- opening sets the shadow to fa throughout and the table to zeros; refused 21, 22, 23 in that order
unfoldable pub open_with : List ℕ → List ℕ → ℕ → ℕ → OpenedWith
open_with shadow table R Q =
    elim (between least_granules most_granules (length shadow)) [
      | false ↦ not_opened (Err BadShadowLength) shadow table
      | true ↦
          elim (between least_redzone most_redzone R) [
            | false ↦ not_opened (Err BadRedzone) shadow table
            | true ↦
                elim (table_length (length table)) [
                  | false ↦ not_opened (Err BadTableLength) shadow table
                  | true ↦ record {
                    given = record {
                      session = fresh (length shadow) (length table / row_numbers) R Q;
                      status = opening_status (Ok tt);
                    };
                    shadow = replicate (length shadow) redzone_byte;
                    table = replicate (length table) 0;
                  }
                ]
          ]
    ]

-- ---- the session check behind 24

-- the places from n on are zero
unfoldable pub unused_zero : List ℕ → ℕ → Bool
unused_zero line n = all_equal line 0 n (frame_digits - n)

-- every field is within its limits; a closed session's are not
unfoldable pub within_limits : Session → Bool
within_limits session =
    between least_granules most_granules session.granules
    && between least_rows most_rows session.rows
    && between least_redzone most_redzone session.redzone
    && leb session.unfinished too_long
    && unused_zero session.line session.unfinished

-- and what is lent has the session's lengths
unfoldable pub fits_session : {P : Type 0} → Engine P → Session → P → Bool
fits_session engine session pool = within_limits session && engine.lent session.granules session.rows pool

-- an engine whose lines keep the lengths of what it is lent
abbrev pub KeepsLengths : {P : Type 0} → Engine P → Type 0
KeepsLengths {P} engine = (S n : ℕ) (session : Session) (pool : P) (asked : Asked) → engine.lent S n pool ≡ true
    → engine.lent S n (engine.act session pool asked).pool ≡ true

-- the watcher's, of a lent shadow and table
abbrev pub fits_lent : Session → List ℕ → List ℕ → Bool
fits_lent session shadow table = fits_session watcher session (pool_of shadow table)

-- the same, said of each field

-- every field is within its limits, and unused places are zero
pub record Within (session : Session) : Type 0 where
  pub granules : between least_granules most_granules session.granules ≡ true
  pub rows : between least_rows most_rows session.rows ≡ true
  pub redzone : between least_redzone most_redzone session.redzone ≡ true
  pub unfinished : session.unfinished ≤ too_long
  pub unused : AllEqual session.line 0 session.unfinished frame_digits

-- and the lent lengths are the session's
pub record Lent (session : Session) (shadow table : List ℕ) : Type 0 where
  pub within : Within session
  pub of_shadow : length shadow ≡ session.granules
  pub of_table : length table ≡ row_numbers * session.rows

abbrev pub LentState : State Pool → Type 0
LentState st = Lent st.session st.pool.shadow st.pool.table

-- ---- the direct calls: 24 first, then as their frames answer

-- what a direct call leaves: its answer, and the shadow and the table after it
pub record Called : Type 0 where
  pub answer : CallAnswer
  pub shadow : List ℕ
  pub table : List ℕ

abbrev pub called : CallAnswer → List ℕ → List ℕ → Called
called answer shadow table = record { answer = answer; shadow = shadow; table = table }

-- as a line does
abbrev pub as_line : Acted → Called
as_line acted = called (Ok acted.answer) acted.shadow acted.table

unfoldable pub grant_call : Session → List ℕ → List ℕ → ℕ → Called
grant_call session shadow table s =
    elim (fits_lent session shadow table) [
      | true ↦ as_line (grant session.redzone shadow table s)
      | false ↦ called (Err BadSession) shadow table
    ]

unfoldable pub release_call : Session → List ℕ → List ℕ → ℕ → Called
release_call session shadow table a =
    elim (fits_lent session shadow table) [
      | true ↦ as_line (release session.redzone session.quarantine shadow table a)
      | false ↦ called (Err BadSession) shadow table
    ]

unfoldable pub access_call : Session → List ℕ → List ℕ → ℕ → ℕ → CallAnswer
access_call session shadow table a n =
    elim (fits_lent session shadow table) [ true ↦ Ok (access shadow a n) | false ↦ Err BadSession ]

-- the length of the unfinished line, 0 to 19
unfoldable pub unfinished_call : Session → CallAnswer
unfinished_call session =
    elim (within_limits session) [ true ↦ Ok (Ok session.unfinished) | false ↦ Err BadSession ]

-- ---- feed

-- what a feed hands back, and what it was lent, as it leaves it
pub record FedWith (P : Type 0) : Type 0 where
  pub given : Fed
  pub pool : P
  pub room : List ℕ

-- `n` bytes taken of the text that ran; room beyond the bytes written is unchanged
abbrev pub fed_with : {P : Type 0} → Ran P → ℕ → List ℕ → FedWith P
fed_with ran n room = record {
  given = record {
    session = ran.state.session;
    status = call_status (Ok (Ok 0));
    taken = n;
    wrote = length ran.report;
  };
  pool = ran.state.pool;
  room = put room 0 ran.report;
}

-- a feed is `run` over the bytes taken; 24 gives the session back, and every other number is 0
unfoldable pub feed_by : {P : Type 0} → Engine P → Session → P → List ℕ → List ℕ → FedWith P
feed_by engine session pool piece room =
    elim (fits_session engine session pool) [
      | true ↦
          let n : ℕ = taken piece (length room) in
          fed_with (run engine (record { session = session; pool = pool }) (take n piece)) n room
      | false ↦ record {
        given = record { session = session; status = call_status (Err BadSession); taken = 0; wrote = 0 };
        pool = pool;
        room = room;
      }
    ]

-- the watcher's, of a lent shadow and table
abbrev pub feed : Session → List ℕ → List ℕ → List ℕ → List ℕ → FedWith Pool
feed session shadow table piece room = feed_by watcher session (pool_of shadow table) piece room
