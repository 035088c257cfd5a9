mod Each
mod FewLines
mod Lines
mod Names
mod Parses
mod Shorts
mod Tables
mod Texts
