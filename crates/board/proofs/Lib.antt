-- Laws of boards.
pub mod Read
pub mod Laying
