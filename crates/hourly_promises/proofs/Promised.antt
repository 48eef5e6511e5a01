-- The theorems that the check finds for a promise by itself.
use Rattle.hourly_table.proofs.AllRead.{all_read, numbers_known, pages_whole, hours_rise, room_enough, size_told}
use Rattle.hourly_table.proofs.ChangeLaws.{change_exactly, empty_absent_before, empty_absent, empty_fallen, empty_old_top, empty_new_top}
use Rattle.hourly_table.proofs.Exactly.{first_exactly}
use Rattle.hourly_table.proofs.Smalls.{never_zero}
use Rattle.hourly_table.proofs.StandLaws.{later_stands, empty_first}
use Rattle.hourly_promises.proofs.Blames.{length_blamed, sum_blamed, damage_blamed, fall_blamed}
use Rattle.hourly_promises.proofs.EveryHour.{hours_count, hour_at}
use Rattle.hourly_promises.proofs.Given.{table_given}
use Rattle.hourly_promises.proofs.Hex.{number_length, number_read}
use Rattle.hourly_promises.proofs.Told.{field_told, field_gap}
use Rattle.hourly_promises.proofs.Gaps.{stands_before, none_before_0, no_sample, none_before}
use Rattle.hourly_promises.proofs.LineLaws.{line_counted, hour_worded, page_worded, none_worded}
use Rattle.hourly_promises.proofs.Plain.{row_is_csv}
use Rattle.hourly_promises.proofs.ReadTable.{table_is_csv}

pub ruleset fields = (never_zero, change_exactly, empty_first, no_sample, none_before, empty_absent_before, empty_absent, empty_fallen, empty_old_top, empty_new_top, later_stands, stands_before, none_before_0, field_told, field_gap)

pub ruleset refusals = (first_exactly, all_read, table_given, numbers_known, pages_whole, hours_rise, room_enough, size_told, length_blamed, sum_blamed, damage_blamed, fall_blamed)

pub ruleset texts = (row_is_csv, table_is_csv, number_length, number_read)

pub ruleset hours = (hours_count, hour_at)

pub ruleset lines = (line_counted, hour_worded, page_worded, none_worded)
