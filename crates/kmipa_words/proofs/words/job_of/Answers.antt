use Rattle.std.proofs.Common.{codes}
use Rattle.clap.specs.Words.{found_of, subcommand_rows_of}
use Rattle.kmipa_words.proofs.WordLemmas.{named, chain_found_some, check_found_some, flag_found, judge_found_some, search_found_some, show_found, write_found}
use Rattle.kmipa_words.proofs.words.job_of.Goals as goal

pub returns-in-check : goal.returns-in-check
returns-in-check c =
    let m = c.args.matches.now in
    check_found_some (found_of c.in_ok-name.words.now) c.check_of.result (subcommand_rows_of m)
    (named m c.in_ok-name.name.now (codes "check") c.in-check.is c.in_ok-name.ensures.name) c.in_ok-name.ensures.rows c.check_of.ensures

pub returns-in_ok-get_str-in-show : goal.returns-in_ok-get_str-in-show
returns-in_ok-get_str-in-show c =
    let m = c.args.matches.now in
    let f = found_of c.in_ok-name.words.now in
    show_found f c.in_ok-get_str-in-show.field-0 (record { messages = c.get_flag.result; notes = c.get_flag-in-show.result }) (subcommand_rows_of m)
    (named m c.in_ok-name.name.now (codes "show") c.in-show.is c.in_ok-name.ensures.name) c.in_ok-name.ensures.rows c.in_ok-get_str-in-show.ensures
    (flag_found f (codes "messages") c.get_flag.result c.get_flag.ensures.none c.get_flag.ensures.value c.get_flag.ensures.other)
    (flag_found f (codes "notes") c.get_flag-in-show.result c.get_flag-in-show.ensures.none c.get_flag-in-show.ensures.value c.get_flag-in-show.ensures.other)

pub returns-in-search : goal.returns-in-search
returns-in-search c =
    let m = c.args.matches.now in
    search_found_some (found_of c.in_ok-name.words.now) c.search_of.result (subcommand_rows_of m)
    (named m c.in_ok-name.name.now (codes "search") c.in-search.is c.in_ok-name.ensures.name) c.in_ok-name.ensures.rows c.search_of.ensures

pub returns-in_ok-get_str-in-write-2 : goal.returns-in_ok-get_str-in-write-2
returns-in_ok-get_str-in-write-2 c =
    let m = c.args.matches.now in
    write_found (found_of c.in_ok-name.words.now) c.in_ok-get_str-in-write.field-0 c.in_ok-get_str-in-write-2.field-0 (subcommand_rows_of m)
    (named m c.in_ok-name.name.now (codes "write") c.in-write.is c.in_ok-name.ensures.name) c.in_ok-name.ensures.rows
    c.in_ok-get_str-in-write.ensures c.in_ok-get_str-in-write-2.ensures

pub returns-in-chain : goal.returns-in-chain
returns-in-chain c =
    let m = c.args.matches.now in
    chain_found_some (found_of c.in_ok-name.words.now) c.chain_of.result (subcommand_rows_of m)
    (named m c.in_ok-name.name.now (codes "chain") c.in-chain.is c.in_ok-name.ensures.name) c.in_ok-name.ensures.rows c.chain_of.ensures

pub returns-in-judge : goal.returns-in-judge
returns-in-judge c =
    let m = c.args.matches.now in
    judge_found_some (found_of c.in_ok-name.words.now) c.judge_of.result (subcommand_rows_of m)
    (named m c.in_ok-name.name.now (codes "judge") c.in-judge.is c.in_ok-name.ensures.name) c.in_ok-name.ensures.rows c.judge_of.ensures
