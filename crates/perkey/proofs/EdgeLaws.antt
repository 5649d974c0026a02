-- Every row of the table of edges holds, by one computation from the rules.
use mathlib.Core.Path.{◌≡◌, refl}
use mathlib.Core.Bool.{true}
use Rattle.arith.specs.Arith.{ceil_div}
use Rattle.rows.specs.Rows.{rows, unrow}
use Rattle.held.specs.Layout.{table_in}
use Rattle.index.specs.Walk as Index
use Rattle.held.specs.Held.{removed}
use Rattle.held.specs.Round as Round
use Rattle.bucket.specs.Bucket.{shortfall_at, available_at, grown, wait_at, asked}
use Rattle.bucket.specs.Debt.{taken_out, lacking, restored}
use Rattle.settings.specs.Powers.{exponent_from, exponent_for}
use Rattle.settings.specs.Rate as Rate
use Rattle.settings.specs.Settings as Settings
use Rattle.classes.specs.Classes as Classes
use Rattle.classes.specs.Layout as ClassLayout
use Rattle.hash.specs.Fnv.{hash_from}
use Rattle.ledger.specs.Layout as Debts
use Rattle.ledger.specs.Model as Ledger
use Rattle.shard_map.specs.Layout as Layout
use Rattle.shard_map.specs.Model as Shard
use Rattle.evict.specs.Evict.{noted, walk_from, walked, evicted}
use Rattle.shard.specs.Model as OneShard
use Rattle.store.specs.Refusals as Refusals
use Rattle.rules.specs.Asks as Asks
use Rattle.rules.specs.Rules as Rules
use Rattle.perkey.specs.Edges.{all_hold, edges}

pub every_edge_holds : all_hold edges ≡ true
unfolding ceil_div rows unrow table_in removed Index.onward Index.walk_from Index.walk Index.find_from Index.find Index.seek Index.add
    Index.add_again Index.rehome Index.vacate Index.renumber Index.remove
    Round.look_at Round.look Round.sweep shortfall_at available_at grown wait_at asked taken_out lacking restored
    Rate.unless_within Rate.rate_refusal Settings.size_refusal Settings.first_refusal exponent_from exponent_for hash_from
    Debts.ledger Debts.words_of Ledger.place_of Ledger.remove_at Ledger.append Ledger.owed_by Ledger.taken Ledger.sweep
    Ledger.scan_from Ledger.scan Ledger.drop_chosen Ledger.make_room Ledger.recorded_at Ledger.recorded Ledger.paid_down
    Layout.shard Layout.words_of Shard.place_of Shard.remove_at Shard.insert Shard.sweep_idle
    noted walk_from walked evicted OneShard.make_room OneShard.with_existing OneShard.admit OneShard.with_or_insert OneShard.viewed
    OneShard.turn_aways OneShard.refunded OneShard.removed
    Refusals.memory_refusal Refusals.total_refusal Refusals.count_refusal Refusals.moment_refusal Refusals.wait_refusal
    ClassLayout.classes_in Classes.count_refusal Classes.first_from
    Asks.asked_in Rules.unless_refused Rules.set_up_in Rules.keyed_rule_in
every_edge_holds = refl
