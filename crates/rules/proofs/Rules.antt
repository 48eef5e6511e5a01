-- What a command comes to, by the page that it asks for.
use Rattle.std.proofs.Common.{Option, Some, None, Result, Ok, Err, ◌≡◌, refl, true, false}
use Rattle.std.specs.Option.{ok_or}
use Rattle.rules.specs.OtherRule.{asks_errors, asks_counters, asks_identity}
use Rattle.frames.specs.declared.log_pages.LogPage.TheVariants.{Errors, Counters}
use Rattle.rules.specs.declared.errors.CommandError.TheVariants.{Aborted}
use Rattle.rules.specs.declared.command_rules.PageAsked.{PageAsked}
use Rattle.rules.specs.declared.command_rules.PageAsked.TheVariants.{Log, Identity}
use Rattle.rules.specs.declared.command_rules.Bad.{Bad}
use Rattle.rules.specs.declared.command_rules.Bad.TheVariants.{Only}

-- what a command that asks for a page comes to, by the page
pub by_page : (P : Result PageAsked Bad → Type 0) (page : Option PageAsked) → (asks_errors page ≡ true → P (Ok (Log Errors)))
    → (asks_errors page ≡ false → asks_counters page ≡ true → P (Ok (Log Counters))) → (asks_errors page ≡ false → asks_identity page ≡ true → P (Ok Identity)) → (asks_errors page ≡ false → P (Err (Only Aborted))) → P (ok_or page (Only Aborted))
by_page P (Some (Log Errors)) e c i b = e refl
by_page P (Some (Log Counters)) e c i b = c refl refl
by_page P (Some Identity) e c i b = i refl refl
by_page P None e c i b = b refl
