-- One night's trace, whole: the sixteen marked lines as one computed fact about the definitions.
use Rattle.std.specs.Prelude.{ℕ, ◌*◌, ◌≡◌, refl, List, [], ◌∷◌, ◌++◌, replicate}
use Prim.Native.String.{String}
use Prim.Native.Char.{code}
use Rattle.rules.specs.Limits.{row_numbers, line_feed, kind_grant}
use Rattle.rules.specs.Lowest.{lowest, all_equal, total}
use Rattle.rules.specs.Put.{put, fill}
use Rattle.rules.specs.Table.{rows, column, set_number, put_row, lessened}
use Rattle.rules.specs.Shadow.{leading, inside, shadow_of, addressable, kind, first_bad, judge}
use Rattle.rules.specs.Answers.{in_numbers, status, opening_status, call_in_numbers, call_status}
use Rattle.rules.specs.Grant.{counted, granules, fits, place, last_granule, granted, empty_row, grant_at, grant}
use Rattle.rules.specs.Release.{Pool, starts_at, row_at, if_quarantined, in_quarantine, weight, weights, older}
use Rattle.rules.specs.Release.{oldest, paint_row, evict_row, evict_oldest, settle_in, settle, quarantine_row}
use Rattle.rules.specs.Release.{release_row, release}
use Rattle.rules.specs.Hex.{hex_digit, number_on, number, digit, digits, written, read_field}
use Rattle.rules.specs.Frames.{fields, fields_of_digits, fields_of_line, with_zero, frame, asked, frame_of_line}
use Rattle.rules.specs.Frames.{answer_line, line_of}
use Rattle.rules.specs.Feed.{State, Ran, with_line, emptied, lengthened, act_line, finish, hold, step, run, taken}
use Rattle.rules.specs.Watcher.{of_verdict, access, act, lent_lengths, watcher, state_of}
use Rattle.rules.specs.Calls.{fresh, table_length, OpenedWith, open_with, unused_zero, within_limits}
use Rattle.rules.specs.Calls.{fits_session, feed_by, feed}

-- a text's bytes
unfoldable pub bytes : String → List ℕ
bytes String.[] = []
bytes (String.◌∷◌ c text) = code c ∷ bytes text

-- lines, a line feed after each
unfoldable pub text : List String → List ℕ
text [] = []
text (line ∷ lines) = bytes line ++ line_feed ∷ text lines

-- what an opening of S granules and the rows gives
unfoldable pub opened : ℕ → ℕ → ℕ → ℕ → State Pool
opened S R Q n =
    let o : OpenedWith = open_with (replicate S 0) (replicate (row_numbers * n) 0) R Q in
    state_of o.given.session o.shadow o.table

abbrev pub trace : List String
trace =
    "010000000d00000000"
    ∷ "03000000100000000d"
    ∷ "030000001c00000002"
    ∷ "010000000100000000"
    ∷ "020000001000000000"
    ∷ "030000001000000001"
    ∷ "020000001000000000"
    ∷ "020000003000000000"
    ∷ "010000000800000000"
    ∷ "020000004800000000"
    ∷ "010000001800000000"
    ∷ "010000001000000000"
    ∷ "040000001c00000008"
    ∷ "030000008000000001"
    ∷ "03ffffffff00000000"
    ∷ "020000001100000000"
    ∷ []

abbrev pub answers : List String
answers =
    "000000000010"
    ∷ "000000000000"
    ∷ "09050000001d"
    ∷ "000000000030"
    ∷ "000000000000"
    ∷ "09fd00000010"
    ∷ "080000000000"
    ∷ "000000000000"
    ∷ "000000000048"
    ∷ "000000000001"
    ∷ "060000000000"
    ∷ "000000000010"
    ∷ "09fa00000020"
    ∷ "09ff00000080"
    ∷ "000000000000"
    ∷ "070000000000"
    ∷ []

-- fafa0000fafafdfafafdfafafafafafa
abbrev pub shadow_after : List ℕ
shadow_after =
    0xfa ∷ 0xfa ∷ 0x00 ∷ 0x00 ∷ 0xfa ∷ 0xfa ∷ 0xfd ∷ 0xfa ∷ 0xfa ∷ 0xfd ∷ 0xfa ∷ 0xfa ∷ 0xfa ∷ 0xfa ∷ 0xfa ∷ 0xfa ∷ []

-- (2,16,1,0), (6,1,2,1), (9,8,2,2), zeros
abbrev pub table_after : List ℕ
table_after = 2 ∷ 16 ∷ 1 ∷ 0 ∷ 6 ∷ 1 ∷ 2 ∷ 1 ∷ 9 ∷ 8 ∷ 2 ∷ 2 ∷ 0 ∷ 0 ∷ 0 ∷ 0 ∷ []

abbrev pub state_after : State Pool
state_after = state_of (fresh 16 4 2 16) shadow_after table_after

-- every definition that a text goes through: to unfold this one is to unfold them all
unfoldable pub by_the_rules : State Pool → List ℕ → Ran Pool
unfolding bytes text opened open_with table_length status in_numbers opening_status call_in_numbers call_status
    run step hold finish act_line act lengthened emptied access of_verdict judge first_bad kind addressable
    shadow_of inside leading lowest all_equal total put fill rows column set_number put_row lessened counted
    granules fits place last_granule granted empty_row grant_at grant starts_at row_at if_quarantined
    in_quarantine weight weights older oldest paint_row evict_row evict_oldest settle_in settle quarantine_row
    release_row release hex_digit number_on number digit digits written read_field fields_of_digits
    fields_of_line with_zero frame asked frame_of_line answer_line line_of taken unused_zero within_limits
    lent_lengths fits_session feed_by
by_the_rules = run watcher

-- S = 16, R = 2, Q = 16, 4 rows: the whole report, the shadow, the rows and the session after
pub night : run watcher (opened 16 2 16 4) (text trace) ≡ record { state = state_after; report = text answers }
unfolding by_the_rules
night = refl

-- the same as one call, in a room of just 16 answers: all 16 x 19 bytes are taken and 16 x 13 written
pub night_fed : feed (fresh 16 4 2 16) (replicate 16 0xfa) (replicate 16 0) (text trace) (replicate 208 0)
    ≡ record {
      given = record { session = fresh 16 4 2 16; status = 0; taken = 304; wrote = 208 };
      pool = record { shadow = shadow_after; table = table_after };
      room = text answers;
    }
unfolding by_the_rules
night_fed = refl

-- with one row, a second grant answers 05
pub one_row :
    run watcher (opened 16 2 16 1) (text ("010000000d00000000" ∷ "010000000100000000" ∷ []))
    ≡ record {
      state = record {
        session = fresh 16 1 2 16;
        pool = record {
          shadow = 0xfa ∷ 0xfa ∷ 0x00 ∷ 0x05 ∷ replicate 12 0xfa;
          table = 2 ∷ 13 ∷ 1 ∷ 0 ∷ [];
        };
      };
      report = text ("000000000010" ∷ "050000000000" ∷ []);
    }
unfolding by_the_rules
one_row = refl

-- ---- how readings would get lost, where the night alone does not show it

-- an access near ffffffff does not wrap into the live block at 10
pub no_wrap : run watcher state_after (text ("03fffffffc00000020" ∷ []))
    ≡ record { state = state_after; report = text ("09fffffffffc" ∷ []) }
unfolding by_the_rules
no_wrap = refl

-- the unaligned access of source document 000, bytes 6 to 9 of a block of 8, is reported at its first byte past the
-- block
pub unaligned :
    (run watcher (opened 16 2 16 4) (text ("010000000800000000" ∷ "040000001600000004" ∷ []))).report
    ≡ text ("000000000010" ∷ "09fa00000018" ∷ [])
unfolding by_the_rules
unaligned = refl

-- ---- both sides of a limit

-- sizes 0, 1, 7, 8 and 9, a redzone of two granules between neighbours, and then no row
pub sizes :
    run watcher (opened 24 2 0 5)
    (text
    ("010000000000000000" ∷ "010000000100000000" ∷ "010000000700000000" ∷ "010000000800000000" ∷ "010000000900000000"
    ∷ "010000000100000000" ∷ []))
    ≡ record {
      state = record {
        session = fresh 24 5 2 0;
        pool = record {
          shadow = 0xfa ∷ 0xfa ∷ 0x01 ∷ 0xfa ∷ 0xfa ∷ 0x01 ∷ 0xfa ∷ 0xfa ∷ 0x07 ∷ 0xfa ∷ 0xfa ∷ 0x00 ∷ 0xfa ∷ 0xfa
              ∷ 0x00 ∷ 0x01 ∷ replicate 8 0xfa;
          table = 2 ∷ 1 ∷ 1 ∷ 0 ∷ 5 ∷ 1 ∷ 1 ∷ 0 ∷ 8 ∷ 7 ∷ 1 ∷ 0 ∷ 11 ∷ 8 ∷ 1 ∷ 0 ∷ 14 ∷ 9 ∷ 1 ∷ 0 ∷ [];
        };
      };
      report = text ("000000000010" ∷ "000000000028" ∷ "000000000040" ∷ "000000000058" ∷ "000000000070" ∷ "050000000000"
          ∷ []);
    }
unfolding by_the_rules
sizes = refl

-- of 16 granules the largest block has 12, 96 bytes; one byte more has no place, nor has the largest size there is
pub largest :
    (run watcher (opened 16 2 0 2) (text
    ("01ffffffff00000000" ∷ "010000006100000000" ∷ "010000006000000000" ∷ []))).report
    ≡ text ("060000000000" ∷ "060000000000" ∷ "000000000010" ∷ [])
unfolding by_the_rules
largest = refl

-- the arena's first and last byte and the one past it, the last address there is, and nothing touched at either
pub edges :
    (run watcher state_after
    (text
    ("030000000000000001" ∷ "030000007f00000001" ∷ "030000008000000001" ∷ "030000008000000000" ∷ "03ffffffff00000001"
    ∷ "03ffffffffffffffff" ∷ "03ffffffff00000000" ∷ []))
    ).report
    ≡ text
    ("09fa00000000" ∷ "09fa0000007f" ∷ "09ff00000080" ∷ "000000000000" ∷ "09ffffffffff" ∷ "09ffffffffff"
    ∷ "000000000000" ∷ [])
unfolding by_the_rules
edges = refl

-- the live block of 16 bytes at 10: whole, its last byte, one byte past it and one before it
pub block_edges :
    (run watcher state_after (text ("030000001000000010" ∷ "030000001f00000001" ∷ "030000001f00000002"
    ∷ "030000000f00000002" ∷ []))).report
    ≡ text ("000000000000" ∷ "000000000000" ∷ "09fa00000020" ∷ "09fa0000000f" ∷ [])
unfolding by_the_rules
block_edges = refl

-- ---- frames in

-- the line of a frame: line 1 of the night
pub line_spelt : line_of (fields kind_grant 13 0) ≡ text ("010000000d00000000" ∷ [])
unfolding by_the_rules
line_spelt = refl

-- digits of either case; a carriage return, a digit too few, one too many and an empty line are refused 01, then 02 and
-- 03
pub lines :
    run watcher state_after
    (text
    ("03FFFFFFFF00000000" ∷ "03000000100000001\r" ∷ "03000000100000001" ∷ "0300000010000000010" ∷ ""
    ∷ "050000000000000000" ∷ "020000001000000001" ∷ []))
    ≡ record {
      state = state_after;
      report = text
          ("000000000000" ∷ "010000000000" ∷ "010000000000" ∷ "010000000000" ∷ "010000000000" ∷ "020000000000"
          ∷ "030000000000" ∷ []);
    }
unfolding by_the_rules
lines = refl

-- an unfinished line is not acted on, though its 18 digits are there
pub unfinished_18 :
    run watcher state_after (bytes "020000001000000000")
    ≡ record {
      state = state_of (with_line (fresh 16 4 2 16) 18 (bytes "020000001000000000")) shadow_after table_after;
      report = [];
    }
unfolding by_the_rules
unfinished_18 = refl

-- and of 19 bytes or more its first 18 are kept, and 19 stands for the length
pub unfinished_21 :
    run watcher state_after (bytes "020000001000000000abc")
    ≡ record {
      state = state_of (with_line (fresh 16 4 2 16) 19 (bytes "020000001000000000")) shadow_after table_after;
      report = [];
    }
unfolding by_the_rules
unfinished_21 = refl

-- ---- scribbled buffers: the same rules apply to whatever is found

-- S = 8, Q = ffffffff. Row 0 reaches past the shadow, rows 1 and 2 weigh more than 32 bits hold between them, row 3 is
-- in no state. Row 0 is released: its turn is 3, as theirs is, so it leaves first, being the lower row, and then row 1.
-- Every other row's turn is lessened twice, row 3's too. A shadow byte 7f makes no byte addressable
pub scribbled :
    run watcher
    (record {
      session = fresh 8 4 2 0xffff_ffff;
      pool = record {
        shadow = 0x7f ∷ 0x05 ∷ 0xfd ∷ 0xfd ∷ 0x00 ∷ 0x00 ∷ 0x00 ∷ 0x00 ∷ [];
        table = 6 ∷ 100 ∷ 1 ∷ 7 ∷ 1 ∷ 0xffff_ffff ∷ 2 ∷ 3 ∷ 2 ∷ 0xffff_ffff ∷ 2 ∷ 3 ∷ 9 ∷ 9 ∷ 3 ∷ 5 ∷ [];
      };
    })
    (text ("020000003000000000" ∷ "030000000000000001" ∷ []))
    ≡ record {
      state = record {
        session = fresh 8 4 2 0xffff_ffff;
        pool = record {
          shadow = 0x7f ∷ 0xfa ∷ 0xfa ∷ 0xfa ∷ 0xfa ∷ 0xfa ∷ 0xfa ∷ 0xfa ∷ [];
          table = 0 ∷ 0 ∷ 0 ∷ 0 ∷ 0 ∷ 0 ∷ 0 ∷ 0 ∷ 2 ∷ 0xffff_ffff ∷ 2 ∷ 1 ∷ 9 ∷ 9 ∷ 3 ∷ 3 ∷ [];
        };
      };
      report = text ("000000000002" ∷ "097f00000000" ∷ []);
    }
unfolding by_the_rules
scribbled = refl

-- a live row whose start times 8 is 1_0000_0010: no release of 32 bits reaches it
pub far_row :
    run watcher
    (state_of (fresh 8 1 2 16) (replicate 8 0xfa) (0x2000_0002 ∷ 8 ∷ 1 ∷ 0 ∷ []))
    (text ("020000001000000000" ∷ []))
    ≡ record {
      state = state_of (fresh 8 1 2 16) (replicate 8 0xfa) (0x2000_0002 ∷ 8 ∷ 1 ∷ 0 ∷ []);
      report = text ("070000000000" ∷ []);
    }
unfolding by_the_rules
far_row = refl
